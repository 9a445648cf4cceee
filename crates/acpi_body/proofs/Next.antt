-- What is told of a body that begins with statements and goes on with what is refused by itself.
use Rattle.std.proofs.Common.{◌≡◌, ℕ, zero, suc, ◌-◌, ◌≤◌, ◌<◌, Bool, true, false, eqb, Option, Some, None, List, [], ◌∷◌, ◌++◌, length, Ok, Err, refl, sym, ap, ◌∙◌, append_assoc, arith}
use Rattle.std.proofs.lemmas.List.{length-append}
use Rattle.std.proofs.lemmas.Bool.{eqb-true}
use Rattle.acpi_name.specs.Names.{Segment, NameParts}
use Rattle.acpi_tree.specs.declared.place.Place.TheVariants.{Statement}
use Rattle.acpi_tree.specs.Terms.{TermTree, TermTrees, no_terms, more}
use Rattle.acpi_code.specs.declared.opcode.Opcode.{Opcode}
use Rattle.acpi_code.specs.declared.opcode.Opcode.TheVariants as opcodes
use Rattle.acpi_code.specs.Opcodes.{BeginsWith}
use Rattle.acpi_code.specs.steps.Opcodes.{first_opcode}
use Rattle.acpi_code.specs.steps.Reading.{Reading}
use Rattle.acpi_code.proofs.Opcodes.{begins_first, opcode_found, some_begin}
use Rattle.acpi_values.specs.declared.fault.BodyFault.{BodyFault}
use Rattle.acpi_values.specs.declared.fault.BodyReason.{BodyReason}
use Rattle.acpi_values.specs.Arguments.{Locals, BodyGrammar}
use Rattle.acpi_values.specs.Grammars.{Grammar}
use Rattle.acpi_values.specs.Spelling.{heights}
use Rattle.acpi_body.specs.Statements.{locals_after, locals_after_all, AreStatements}
use Rattle.acpi_values.specs.Refusals.{statement_refusal, never_begins}
use Rattle.acpi_body.specs.Faults.{IsNoStatement}
use Rattle.acpi_values.specs.steps.Reading.{Reader, fault_at, placed_by, term_at}
use Rattle.acpi_body.specs.steps.Reading.{Statements, statements_with, statement_by, statement_at, statements_at, body_at}
use Rattle.acpi_body.proofs.StatementComplete.{begins_else, ends, statement_starts, statements_start, statement_complete}

abbrev known : {A : Type 0} → A → Option A
known x = Some x

known_is : {A : Type 0} (x y : A) → known x ≡ known y → x ≡ y
known_is x y e = cc

none_known : {A : Type 0} (x : A) → None ≡ known x → ⊥
none_known x e = cc

-- it is no Else
no_else_there : (w : List ℕ) (o : Opcode) (why : BodyReason) (loads : Bool) → BeginsWith o w → never_begins loads o ≡ known why → begins_else w ≡ false
no_else_there [] o why loads e r = refl
no_else_there (b ∷ w) o why loads e r = by_test (eqb b 0xA1) refl
  where
    by_test : (t : Bool) → eqb b 0xA1 ≡ t → eqb b 0xA1 ≡ false
    by_test true t =
        let is : first_opcode (0xA1 ∷ w) ≡ known o = ap (λ k. first_opcode (k ∷ w)) (sym (eqb-true b 0xA1 t)) ∙ begins_first (b ∷ w) o e in
        absurd (none_known why (ap (never_begins loads) (known_is opcodes.Else o is) ∙ r))
    by_test false t = t

as_refusal : (loads : Bool) (o : Opcode) (why : BodyReason) → never_begins loads o ≡ known why → statement_refusal loads o ≡ known why
as_refusal loads opcodes.Else why e = absurd (none_known why e)
as_refusal loads _ why e = e

is_placed : (grammar : Grammar) (value : Reader) (inner : Statements) (s : List Segment) (locals : Locals) (end : ℕ) (bytes r : List ℕ)
    (o : Opcode) (why : BodyReason) → never_begins grammar.loads o ≡ known why
    → statement_by grammar value inner s locals end bytes o r ≡ placed_by grammar value Statement end bytes o r
unfolding statement_by
is_placed grammar value inner s locals end bytes r opcodes.If why e = absurd (none_known why e)
is_placed grammar value inner s locals end bytes r opcodes.While why e = absurd (none_known why e)
is_placed grammar value inner s locals end bytes r opcodes.DeclareName why e = absurd (none_known why e)
is_placed grammar value inner s locals end bytes r (opcodes.Create w) why e = absurd (none_known why e)
is_placed grammar value inner s locals end bytes r opcodes.CreateField why e = absurd (none_known why e)
is_placed grammar value inner s locals end bytes r opcodes.Region why e = absurd (none_known why e)
is_placed grammar value inner s locals end bytes r opcodes.Mutex why e = absurd (none_known why e)
is_placed grammar value inner s locals end bytes r opcodes.Event why e = absurd (none_known why e)
is_placed grammar value inner s locals end bytes r opcodes.Field why e = absurd (none_known why e)
is_placed grammar value inner s locals end bytes r opcodes.IndexField why e = absurd (none_known why e)
is_placed grammar value inner s locals end bytes r opcodes.BankField why e = absurd (none_known why e)
is_placed grammar value inner s locals end bytes r _ why e = refl

placed_refused : (grammar : Grammar) (value : Reader) (end : ℕ) (w r : List ℕ) (o : Opcode) (why : BodyReason) → statement_refusal grammar.loads o ≡ known why
    → placed_by grammar value Statement end w o r ≡ Err (fault_at end w why)
unfolding placed_by
placed_refused grammar value end w r o why e = rw e refl

stops_there : (args : BodyGrammar) (s : List Segment) (level : ℕ) (locals : Locals) (end : ℕ) (w : List ℕ) (o : Opcode) (why : BodyReason)
    → BeginsWith o w → never_begins (args locals).loads o ≡ known why → statement_at args s (suc level) locals end w ≡ Err (fault_at end w why)
unfolding statement_at
stops_there args s level locals end w o why opens refuses =
    let r = opcode_found end w o opens in
    rw r.1 (is_placed (args locals) (term_at (args locals) level) (statements_at args s level) s locals end w r.0 o why refuses
    ∙ placed_refused (args locals) (term_at (args locals) level) end w r.0 o why (as_refusal (args locals).loads o why refuses))

-- ---- behind statements

-- the fault that ends them, however many turns more are left
abbrev pub Stops : (Locals → List ℕ → Reading BodyFault TermTree) → List Segment → Locals → List ℕ → BodyFault → Type 0
Stops one s locals bytes f = (n : ℕ) → length bytes ≤ n → statements_with one s n locals bytes ≡ Err f

pub stops_here : (one : Locals → List ℕ → Reading BodyFault TermTree) (s : List Segment) (locals : Locals) (w : List ℕ) (f : BodyFault) → 0 < length w → one locals w ≡ Err f → Stops one s locals w f
unfolding statements_with
stops_here one s locals [] f some e n le = absurd (omega arith)
stops_here one s locals (b ∷ w) f some e zero le = absurd (omega arith)
stops_here one s locals (b ∷ w) f some e (suc n) le = rw e refl

pub stops_behind : (one : Locals → List ℕ → Reading BodyFault TermTree) (s : List Segment) (locals : Locals) (a b : List ℕ) (x : TermTree) (f : BodyFault)
    → 0 < length a → one locals (a ++ b) ≡ Ok (x, b) → Stops one s (locals_after s locals x) b f → Stops one s locals (a ++ b) f
unfolding statements_with
stops_behind one s locals [] b x f long h then n le = absurd (omega arith)
stops_behind one s locals (c ∷ a) b x f long h then zero le = absurd (omega arith)
stops_behind one s locals (c ∷ a) b x f long h then (suc n) le = rw (h, then n (omega (arith, length-append a b))) refl

stops_behind_statements : (args : BodyGrammar) (s : List Segment) (ts : TermTrees) (level : ℕ) (locals : Locals) (end : ℕ) (u w : List ℕ)
    (f : BodyFault) → AreStatements args s locals ts u → heights ts ≤ level → 0 < length w → begins_else w ≡ false
    → statement_at args s level (locals_after_all s locals ts) end w ≡ Err f → Stops (λ locals. statement_at args s level locals end) s locals (u ++ w) f
stops_behind_statements args s no_terms level locals end u w f h le some none stops = rw h (stops_here (λ locals. statement_at args s level locals end) s locals w f some stops)
stops_behind_statements args s (more t ts) level locals end u w f (x, y, ht, hs, whole) le some none stops =
    rw (whole, append_assoc x y w)
    (stops_behind (λ locals. statement_at args s level locals end) s locals x (y ++ w) t f ((statement_starts args s locals t x [] ht).1)
    (statement_complete args s t level locals end x (y ++ w) ht (omega arith) (ends t (y ++ w) (statements_start args s (locals_after s locals t) ts y w hs none)))
    (stops_behind_statements args s ts level (locals_after s locals t) end y w f hs (omega arith) some none stops))

-- what is refused by itself is told, at its place
pub next_told : (args : BodyGrammar) (s : List Segment) (depth : ℕ) (locals : Locals) (u w : List ℕ) (ts : TermTrees) (why : BodyReason) → 0 < depth
    → AreStatements args s locals ts u → heights ts ≤ depth → IsNoStatement (args (locals_after_all s locals ts)).loads why w
    → body_at args s depth locals (u ++ w) ≡ Err (record { reason = why; place = length u })
next_told args s zero locals u w ts why some h le r = absurd (omega arith)
next_told args s (suc level) locals u w ts why some h le r =
    let end = length (u ++ w) in
    let all = stops_behind_statements args s ts (suc level) locals end u w (fault_at end w why) h le (some_begin w r.0 r.1)
    (no_else_there w r.0 why (args (locals_after_all s locals ts)).loads r.1 r.2) (stops_there args s level (locals_after_all s locals ts) end w r.0 why r.1 r.2) in
    let place : end - length w ≡ length u = omega (arith, length-append u w) in
    rw (all end (omega arith), place) refl
