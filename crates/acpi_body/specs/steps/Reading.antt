-- Reading method bodies from left to right, up to the first fault (ACPI 6.5, 20.2.5), over the readings of
-- parts.
use Rattle.std.specs.Prelude.{ℕ, zero, suc, List, [], ◌∷◌, length, Option, Some, None, Result, Ok, Err, ◌==◌, if◌then◌else◌}
use Rattle.acpi_name.specs.Names.{Segment, NameParts}
use Rattle.acpi_name.specs.Paths.{place_of}
use Rattle.acpi_tree.specs.declared.place.Place.TheVariants.{Value, Statement}
use Rattle.acpi_tree.specs.declared.place.NamedForm.{NamedForm}
use Rattle.acpi_tree.specs.declared.place.NamedForm.TheVariants as named
use Rattle.acpi_tree.specs.declared.place.UnitsForm.{UnitsForm}
use Rattle.acpi_tree.specs.declared.place.UnitsForm.TheVariants as units
use Rattle.acpi_tree.specs.Terms.{TermTree, ElseTree, if_do, no_else, else_do, while_do, declare, declare_units, terms_of}
use Rattle.acpi_tree.specs.Operators.{operands_before, operands_behind, names_of_units, operands_of_units}
use Rattle.acpi_code.specs.declared.opcode.Opcode.{Opcode}
use Rattle.acpi_code.specs.declared.opcode.Opcode.TheVariants as opcodes
use Rattle.acpi_code.specs.steps.Reading.{◌>>=◌, Reading, no_level, package_at, name_in, opcode_at}
use Rattle.acpi_values.specs.declared.fault.BodyReason.TheVariants.{BadPlace}
use Rattle.acpi_values.specs.declared.fault.BodyFault.{BodyFault}
use Rattle.acpi_values.specs.Arguments.{Locals, BodyGrammar}
use Rattle.acpi_values.specs.Grammars.{Grammar}
use Rattle.acpi_body.specs.Statements.{locals_after, locals_after_all}
use Rattle.acpi_values.specs.Faults.{fault_of}
use Rattle.acpi_values.specs.steps.Reading.{fault_at, part, Reader, operands_at, placed_by, term_at, fields_in}

-- ---- declarations

-- a declared name has segments and a place
abbrev pub declared_if : {A : Type 0} → Option (List Segment) → List Segment → ℕ → List ℕ
    → Result A BodyFault → Result A BodyFault
declared_if None segments end bytes r = Err (fault_at end bytes BadPlace)
declared_if (Some p) [] end bytes r = Err (fault_at end bytes BadPlace)
declared_if (Some p) (g ∷ gs) end bytes r = r

unfoldable pub declared_at : List Segment → ℕ → List ℕ → Reading BodyFault NameParts
declared_at s end bytes = do
  n ← part (name_in end bytes)
  declared_if (place_of s n.0) n.0.segments end bytes (Ok n)

-- a declaration of one name, with the operands before and behind it
unfoldable pub named_form : Reader → List Segment → NamedForm → ℕ → List ℕ
    → Reading BodyFault TermTree
named_form inner s form end bytes = do
  before ← operands_at inner (operands_before form) end bytes
  n ← declared_at s end before.1
  behind ← operands_at inner (operands_behind form) end n.1
  Ok (declare form (terms_of before.0) n.0 (terms_of behind.0), behind.1)

-- so many names
unfoldable pub names_at : ℕ → ℕ → List ℕ → Reading BodyFault (List NameParts)
names_at zero end bytes = Ok ([], bytes)
names_at (suc count) end bytes = do
  n ← part (name_in end bytes)
  ns ← names_at count end n.1
  Ok (n.0 ∷ ns.0, ns.1)

-- a declaration of field units, in its package
unfoldable pub units_form : Reader → UnitsForm → ℕ → List ℕ → Reading BodyFault TermTree
units_form inner form end bytes = do
  p ← part (package_at end bytes)
  ns ← names_at (names_of_units form) p.end p.content
  vs ← operands_at inner (operands_of_units form) p.end ns.1
  es ← fields_in p.end vs.1
  Ok (declare_units form ns.0 (terms_of vs.0) es, p.rest)

-- ---- statements

-- a reader of statements to the end of the bytes
abbrev pub Statements : Type 0
Statements = Locals → ℕ → List ℕ → Result (List TermTree) BodyFault

-- One after another to the end of the bytes, each with the locals that those before it leave. The number bounds the
-- turns, and the length is enough.
unfoldable pub statements_with : (Locals → List ℕ → Reading BodyFault TermTree) → List Segment → ℕ
    → Locals → List ℕ → Result (List TermTree) BodyFault
statements_with one s zero locals bytes = Ok []
statements_with one s (suc n) locals [] = Ok []
statements_with one s (suc n) locals (b ∷ rest) = do
  x ← one locals (b ∷ rest)
  xs ← statements_with one s n (locals_after s locals x.0) x.1
  Ok (x.0 ∷ xs)

abbrev pub statements_by : (Locals → List ℕ → Reading BodyFault TermTree) → List Segment → Locals
    → List ℕ → Result (List TermTree) BodyFault
statements_by one s locals bytes = statements_with one s (length bytes) locals bytes

-- the statements of the Else, where one begins
unfoldable pub else_at : (ℕ → List ℕ → Result (List TermTree) BodyFault) → ℕ → List ℕ
    → Reading BodyFault ElseTree
else_at inner end [] = Ok (no_else, [])
else_at inner end (b ∷ rest) =
    if b == 0xA1 then (do
      p ← part (package_at end rest)
      ts ← inner p.end p.content
      Ok (else_do (terms_of ts), p.rest))
    else Ok (no_else, b ∷ rest)

unfoldable pub if_form : Reader → Statements → List Segment → Locals → ℕ → List ℕ
    → Reading BodyFault TermTree
if_form value inner s locals end bytes = do
  p ← part (package_at end bytes)
  v ← value Value p.end p.content
  ts ← inner locals p.end v.1
  e ← else_at (inner (locals_after_all s locals (terms_of ts))) end p.rest
  Ok (if_do v.0 (terms_of ts) e.0, e.1)

unfoldable pub while_form : Reader → Statements → Locals → ℕ → List ℕ → Reading BodyFault TermTree
while_form value inner locals end bytes = do
  p ← part (package_at end bytes)
  v ← value Value p.end p.content
  ts ← inner locals p.end v.1
  Ok (while_do v.0 (terms_of ts), p.rest)

-- A statement, by what begins there; `value` and `inner` read what stands in it.
unfoldable pub statement_by : Grammar → Reader → Statements → List Segment → Locals → ℕ → List ℕ
    → Opcode → List ℕ → Reading BodyFault TermTree
statement_by g value inner s locals end whole opcodes.If rest =
    if_form value inner s locals end rest
statement_by g value inner s locals end whole opcodes.While rest =
    while_form value inner locals end rest
statement_by g value inner s locals end whole opcodes.DeclareName rest =
    named_form value s named.Name end rest
statement_by g value inner s locals end whole (opcodes.Create w) rest =
    named_form value s (named.Create w) end rest
statement_by g value inner s locals end whole opcodes.CreateField rest =
    named_form value s named.CreateField end rest
statement_by g value inner s locals end whole opcodes.Region rest =
    named_form value s named.Region end rest
statement_by g value inner s locals end whole opcodes.Mutex rest =
    named_form value s named.Mutex end rest
statement_by g value inner s locals end whole opcodes.Event rest =
    named_form value s named.Event end rest
statement_by g value inner s locals end whole opcodes.Field rest =
    units_form value units.Field end rest
statement_by g value inner s locals end whole opcodes.IndexField rest =
    units_form value units.IndexField end rest
statement_by g value inner s locals end whole opcodes.BankField rest =
    units_form value units.BankField end rest
statement_by g value inner s locals end whole opcode rest =
    placed_by g value Statement end whole opcode rest

-- a statement, `level` levels being left
unfoldable pub statement_at : BodyGrammar → List Segment → ℕ → Locals → ℕ → List ℕ
    → Reading BodyFault TermTree
statement_at g s zero locals end bytes = Err (fault_of (no_level end bytes))
statement_at g s (suc level) locals end bytes = do
  x ← part (opcode_at end bytes)
  statement_by (g locals) (term_at (g locals) level)
      (λ locals end bytes. statements_by
      (λ locals. statement_at g s level locals end) s locals bytes) s locals end bytes x.0 x.1

-- the statements of a list, `level` levels being left
abbrev pub statements_at : BodyGrammar → List Segment → ℕ → Statements
statements_at g s level locals end bytes =
    statements_by (λ locals. statement_at g s level locals end) s locals bytes

-- all of a body
abbrev pub body_at : BodyGrammar → List Segment → ℕ → Locals → List ℕ
    → Result (List TermTree) BodyFault
body_at g s depth locals bytes = statements_at g s depth locals (length bytes) bytes
