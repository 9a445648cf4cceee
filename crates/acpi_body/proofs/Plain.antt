-- What a reader of terms that are neither blocks nor declarations reads declares nothing.
use Rattle.std.proofs.Common.{◌≡◌, ℕ, Bool, true, false, Option, Some, None, List, Result, Ok, Err, IfOk, refl, sym, subst}
use Rattle.acpi_name.specs.Names.{Segment, NameParts}
use Rattle.acpi_tree.specs.declared.place.Place.{Place}
use Rattle.acpi_tree.specs.declared.place.Place.TheVariants.{Value, Element}
use Rattle.acpi_tree.specs.Terms.{TermTree, int, str, buffer, pkg, var_pkg, call, apply, terms_of}
use Rattle.acpi_code.specs.declared.opcode.Opcode.{Opcode}
use Rattle.acpi_code.specs.declared.opcode.Opcode.TheVariants as opcodes
use Rattle.acpi_code.specs.steps.Remaining.{Remaining}
use Rattle.acpi_tree.specs.Operators.{operands_of}
use Rattle.acpi_code.specs.steps.Reading.{◌>>=◌, Reading, each_at, byte_at, package_at, name_in, constant_at, string_at}
use Rattle.acpi_values.specs.declared.fault.BodyFault.{BodyFault}
use Rattle.acpi_values.specs.declared.fault.BodyReason.{BodyReason}
use Rattle.acpi_values.specs.declared.fault.BodyError.{BodyError}
use Rattle.acpi_values.specs.Arguments.{Locals}
use Rattle.acpi_body.specs.Statements.{locals_after}
use Rattle.acpi_values.specs.Grammars.{Grammar}
use Rattle.acpi_values.specs.Refusals.{refusal_at}
use Rattle.acpi_values.specs.steps.Cursor.{Reads}
use Rattle.acpi_values.specs.Spelling.{values}
use Rattle.acpi_values.specs.steps.Reading.{Reader, part, operands_at, unless, placed_by, form_by}
use Rattle.acpi_values.specs.steps.Reading.{constant_form, string_form, buffer_form, package_form, var_package_form, name_form, call_by, named_by, calls, operator_form}

-- what was read leaves the locals as they are
abbrev pub Keeps : Reading BodyFault TermTree → Type 0
Keeps (Ok x) = (s : List Segment) (locals : Locals) → locals_after s locals x.0 ≡ locals
Keeps (Err f) = Unit {0}

keeps_behind : {A : Type 0} (r : Result A BodyFault) (f : A → Reading BodyFault TermTree) → ((x : A) → Keeps (f x)) → Keeps (r >>= f)
keeps_behind (Ok x) f then = then x
keeps_behind (Err e) f then = tt

keeps_unless : (o : Option BodyReason) (end : ℕ) (bytes : List ℕ) (r : Reading BodyFault TermTree) → Keeps r → Keeps (unless o end bytes r)
keeps_unless None end bytes r h = h
keeps_unless (Some why) end bytes r h = tt

pub buffer_keeps : (inner : Reader) (end : ℕ) (bytes : List ℕ) → Keeps (buffer_form inner end bytes)
unfolding buffer_form
buffer_keeps inner end bytes =
    keeps_behind (part (package_at end bytes)) (λ p. inner Value p.end p.content >>= λ size. Ok (buffer size.0 size.1, p.rest))
    (λ p. keeps_behind (inner Value p.end p.content) (λ size. Ok (buffer size.0 size.1, p.rest)) (λ size s locals. refl))

pub package_keeps : (inner : Reader) (end : ℕ) (bytes : List ℕ) → Keeps (package_form inner end bytes)
unfolding package_form
package_keeps inner end bytes =
    keeps_behind (part (package_at end bytes)) (λ p. part (byte_at p.end p.content) >>= λ count. each_at (inner Element p.end) count.1 >>= λ es. Ok (pkg count.0 (terms_of es), p.rest))
    (λ p. keeps_behind (part (byte_at p.end p.content)) (λ count. each_at (inner Element p.end) count.1 >>= λ es. Ok (pkg count.0 (terms_of es), p.rest))
    (λ count. keeps_behind (each_at (inner Element p.end) count.1) (λ es. Ok (pkg count.0 (terms_of es), p.rest)) (λ es s locals. refl)))

pub var_package_keeps : (inner : Reader) (end : ℕ) (bytes : List ℕ) → Keeps (var_package_form inner end bytes)
unfolding var_package_form
var_package_keeps inner end bytes =
    keeps_behind (part (package_at end bytes)) (λ p. inner Value p.end p.content >>= λ count. each_at (inner Element p.end) count.1 >>= λ es. Ok (var_pkg count.0 (terms_of es), p.rest))
    (λ p. keeps_behind (inner Value p.end p.content) (λ count. each_at (inner Element p.end) count.1 >>= λ es. Ok (var_pkg count.0 (terms_of es), p.rest))
    (λ count. keeps_behind (each_at (inner Element p.end) count.1) (λ es. Ok (var_pkg count.0 (terms_of es), p.rest)) (λ es s locals. refl)))

call_keeps : (inner : Reader) (end : ℕ) (bytes : List ℕ) (n : NameParts × List ℕ) (count : Option ℕ) → Keeps (call_by inner end bytes n count)
call_keeps inner end bytes n None = tt
call_keeps inner end bytes n (Some count) = keeps_behind (operands_at inner (values count) end n.1) (λ vs. Ok (call n.0 (terms_of vs.0), vs.1)) (λ vs s locals. refl)

named_keeps : (args : NameParts → Option ℕ) (inner : Reader) (end : ℕ) (bytes : List ℕ) (is_call : Bool) (n : NameParts × List ℕ) → Keeps (named_by args inner end bytes is_call n)
named_keeps args inner end bytes true n = call_keeps inner end bytes n (args n.0)
named_keeps args inner end bytes false n = λ s locals. refl

form_keeps : (grammar : Grammar) (inner : Reader) (place : Place) (end : ℕ) (whole : List ℕ) (o : Opcode) (rest : List ℕ) → Keeps (form_by grammar inner place end whole o rest)
unfolding form_by constant_form string_form name_form operator_form
form_keeps grammar inner place end whole (opcodes.Constant form) rest = keeps_behind (part (constant_at form end rest)) (λ i. Ok (int i.0, i.1)) (λ i s locals. refl)
form_keeps grammar inner place end whole opcodes.Str rest = keeps_behind (part (string_at end rest)) (λ t. Ok (str t.0, t.1)) (λ t s locals. refl)
form_keeps grammar inner place end whole opcodes.Buffer rest = buffer_keeps inner end rest
form_keeps grammar inner place end whole opcodes.Package rest = package_keeps inner end rest
form_keeps grammar inner place end whole opcodes.VarPackage rest = var_package_keeps inner end rest
form_keeps grammar inner place end whole (opcodes.Local n) rest = λ s locals. refl
form_keeps grammar inner place end whole (opcodes.Arg n) rest = λ s locals. refl
form_keeps grammar inner place end whole opcodes.Debug rest = λ s locals. refl
form_keeps grammar inner place end whole opcodes.Name rest = keeps_behind (part (name_in end whole)) (λ n. named_by grammar.args inner end whole (calls place) n) (λ n. named_keeps grammar.args inner end whole (calls place) n)
form_keeps grammar inner place end whole (opcodes.Operator op) rest = keeps_behind (operands_at inner (operands_of op) end rest) (λ vs. Ok (apply op (terms_of vs.0), vs.1)) (λ vs s locals. refl)
form_keeps grammar inner place end whole _ rest = tt

pub placed_keeps : (grammar : Grammar) (inner : Reader) (place : Place) (end : ℕ) (whole : List ℕ) (o : Opcode) (rest : List ℕ) → Keeps (placed_by grammar inner place end whole o rest)
unfolding placed_by
placed_keeps grammar inner place end whole o rest = keeps_unless (refusal_at grammar.loads place o) end whole (form_by grammar inner place end whole o rest) (form_keeps grammar inner place end whole o rest)

-- ---- as a function answers it

pub locals_kept : {X : Type 0} (view : X → TermTree) (read : ℕ → List ℕ → Reading BodyFault TermTree) (old new : Remaining) (result : Result X BodyError) (s : List Segment) (locals : Locals)
    → Keeps (read old.end old.bytes) → Reads view read old new result → IfOk result (λ x. locals ≡ locals_after s locals (view x))
locals_kept view read old new (Ok x) s locals keeps h = let k : Keeps (Ok (view x, new.bytes)) = subst Keeps h.0 keeps in sym (k s locals)
locals_kept view read old new (Err e) s locals keeps h = tt
