-- The steps of an If, with the locals that its statements leave.
use Rattle.std.proofs.Common.{◌≡◌, ℕ, List, Ok, refl, subst}
use Rattle.acpi_name.specs.Names.{Segment}
use Rattle.acpi_tree.specs.declared.place.Place.TheVariants.{Value}
use Rattle.acpi_tree.specs.Terms.{TermTree, ElseTree, if_do, while_do, terms_of}
use Rattle.acpi_code.specs.steps.Reading.{◌>>=◌, Package, package_at}
use Rattle.acpi_values.specs.declared.fault.BodyError.{BodyError}
use Rattle.acpi_values.specs.Arguments.{Locals}
use Rattle.acpi_body.specs.Statements.{locals_after_all}
use Rattle.acpi_values.specs.steps.Cursor.{Fails}
use Rattle.acpi_values.specs.steps.Reading.{Reader}
use Rattle.acpi_body.specs.steps.Reading.{Statements, else_at, if_form, while_form}
use Rattle.acpi_values.proofs.Parts.{fails_on}

pub else_fails : (value : Reader) (inner : Statements) (s : List Segment) (locals next : Locals) (end : ℕ) (bytes : List ℕ) (p : Package)
    (v : TermTree × List ℕ) (ts : List TermTree) (e : BodyError) (inside outside : ℕ)
    → package_at end bytes ≡ Ok p → value Value p.end p.content ≡ Ok v → inside ≡ p.end → inner locals inside v.1 ≡ Ok ts → next ≡ locals_after_all s locals (terms_of ts) → outside ≡ end
    → Fails e (else_at (inner next) outside p.rest) → Fails e (if_form value inner s locals end bytes)
unfolding if_form
else_fails value inner s locals next end bytes p v ts e inside outside hp hv same here is out fails =
    let h : Fails e (else_at (inner next) end p.rest) = subst (λ n. Fails e (else_at (inner next) n p.rest)) out fails in
    let ht : inner locals p.end v.1 ≡ Ok ts = subst (λ n. inner locals n v.1 ≡ Ok ts) same here in
    let k : Fails e (else_at (inner (locals_after_all s locals (terms_of ts))) end p.rest) = subst (λ n. Fails e (else_at (inner n) end p.rest)) is h in
    rw (hp, hv, ht) (fails_on e (else_at (inner (locals_after_all s locals (terms_of ts))) end p.rest) (λ o. Ok (if_do v.0 (terms_of ts) o.0, o.1)) k)

pub if_made : (value : Reader) (inner : Statements) (s : List Segment) (locals next : Locals) (end : ℕ) (bytes : List ℕ) (p : Package)
    (v : TermTree × List ℕ) (ts : List TermTree) (o : ElseTree) (rest : List ℕ) (t : TermTree) (inside outside : ℕ)
    → package_at end bytes ≡ Ok p → value Value p.end p.content ≡ Ok v → inside ≡ p.end → inner locals inside v.1 ≡ Ok ts → next ≡ locals_after_all s locals (terms_of ts) → outside ≡ end
    → else_at (inner next) outside p.rest ≡ Ok (o, rest) → t ≡ if_do v.0 (terms_of ts) o → if_form value inner s locals end bytes ≡ Ok (t, rest)
unfolding if_form
if_made value inner s locals next end bytes p v ts o rest t inside outside hp hv same here is out read made =
    let h : else_at (inner next) end p.rest ≡ Ok (o, rest) = subst (λ n. else_at (inner next) n p.rest ≡ Ok (o, rest)) out read in
    let ht : inner locals p.end v.1 ≡ Ok ts = subst (λ n. inner locals n v.1 ≡ Ok ts) same here in
    let k : else_at (inner (locals_after_all s locals (terms_of ts))) end p.rest ≡ Ok (o, rest) = subst (λ n. else_at (inner n) end p.rest ≡ Ok (o, rest)) is h in
    rw (hp, hv, ht, k, made) refl

pub then_fails : (value : Reader) (inner : Statements) (s : List Segment) (locals : Locals) (end : ℕ) (bytes : List ℕ) (p : Package) (v : TermTree × List ℕ) (e : BodyError) (inside : ℕ)
    → package_at end bytes ≡ Ok p → value Value p.end p.content ≡ Ok v → inside ≡ p.end → Fails e (inner locals inside v.1) → Fails e (if_form value inner s locals end bytes)
unfolding if_form
then_fails value inner s locals end bytes p v e inside hp hv same here =
    let h : Fails e (inner locals p.end v.1) = subst (λ n. Fails e (inner locals n v.1)) same here in
    rw (hp, hv) (fails_on e (inner locals p.end v.1) (λ ts. else_at (inner (locals_after_all s locals (terms_of ts))) end p.rest >>= λ o. Ok (if_do v.0 (terms_of ts) o.0, o.1)) h)

pub while_fails : (value : Reader) (inner : Statements) (locals : Locals) (end : ℕ) (bytes : List ℕ) (p : Package) (v : TermTree × List ℕ) (e : BodyError) (inside : ℕ)
    → package_at end bytes ≡ Ok p → value Value p.end p.content ≡ Ok v → inside ≡ p.end → Fails e (inner locals inside v.1) → Fails e (while_form value inner locals end bytes)
unfolding while_form
while_fails value inner locals end bytes p v e inside hp hv same here =
    let h : Fails e (inner locals p.end v.1) = subst (λ n. Fails e (inner locals n v.1)) same here in
    rw (hp, hv) (fails_on e (inner locals p.end v.1) (λ ts. Ok (while_do v.0 (terms_of ts), p.rest)) h)
