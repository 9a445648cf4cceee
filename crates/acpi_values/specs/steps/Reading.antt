-- Reading terms from left to right, up to the first fault (ACPI 6.5, 20.2.5), over the readings of parts.
use Rattle.std.specs.Prelude.{◌-◌, ℕ, zero, suc, Bool, true, false, List, [], ◌∷◌, length, Option, Some, None, Result, Ok, Err, ◌==◌, if◌then◌else◌}
use Rattle.acpi_name.specs.Names.{NameParts}
use Rattle.acpi_tree.specs.declared.op.Op.{Op}
use Rattle.acpi_tree.specs.declared.place.Place.{Place}
use Rattle.acpi_tree.specs.declared.place.Place.TheVariants.{Value, SuperName, Element, Statement}
use Rattle.acpi_tree.specs.declared.place.OperandKind.{OperandKind}
use Rattle.acpi_tree.specs.declared.place.OperandKind.TheVariants.{At, Target, Byte, Word, DWord}
use Rattle.acpi_tree.specs.Tree.{FieldTree}
use Rattle.acpi_tree.specs.Terms.{TermTree, int, str, buffer, pkg, var_pkg, local, arg, debug, no_target, raw, ref, call, apply, terms_of}
use Rattle.acpi_tree.specs.Operators.{operands_of}
use Rattle.acpi_code.specs.declared.fault.CodeFault.{CodeFault}
use Rattle.acpi_code.specs.declared.opcode.ConstantForm.{ConstantForm}
use Rattle.acpi_code.specs.declared.opcode.Opcode.{Opcode}
use Rattle.acpi_code.specs.declared.opcode.Opcode.TheVariants as opcodes
use Rattle.acpi_code.specs.steps.Reading.{◌>>=◌, Reading, with_fault, each_at, no_level, byte_at, number_at, package_at, name_in, opcode_at, constant_at, string_at}
use Rattle.acpi_code.specs.steps.Fields as fields
use Rattle.acpi_values.specs.declared.fault.BodyReason.{BodyReason}
use Rattle.acpi_values.specs.declared.fault.BodyReason.TheVariants.{NotStatement, Unsure}
use Rattle.acpi_values.specs.declared.fault.BodyFault.{BodyFault}
use Rattle.acpi_values.specs.Grammars.{Grammar}
use Rattle.acpi_values.specs.Spelling.{values}
use Rattle.acpi_values.specs.Refusals.{refusal_at}
use Rattle.acpi_values.specs.Faults.{fault_of, constant_fault_of}

-- ---- faults

-- the fault whose place is the first of these bytes, or their end
abbrev pub fault_at : ℕ → List ℕ → BodyReason → BodyFault
fault_at end bytes why = record { reason = why; place = end - length bytes }

-- the reading of a part, with its fault as one of bodies
abbrev pub part : {A : Type 0} → Result A CodeFault → Result A BodyFault
part read = with_fault fault_of read

-- ---- operands

-- a reader of what stands at a place
abbrev pub Reader : Type 0
Reader = Place → ℕ → List ℕ → Reading BodyFault TermTree

abbrev pub as_raw : ℕ → Reading CodeFault ℕ → Reading BodyFault TermTree
as_raw k read = part read >>= λ n. Ok (raw k n.0, n.1)

-- the byte 00 is no target, and has no level
abbrev pub target_at : Reader → ℕ → List ℕ → Reading BodyFault TermTree
target_at inner end [] = inner SuperName end []
target_at inner end (b ∷ rest) =
    if b == 0x00 then Ok (no_target, rest) else inner SuperName end (b ∷ rest)

unfoldable pub operand_at : Reader → OperandKind → ℕ → List ℕ → Reading BodyFault TermTree
operand_at inner (At place) end bytes = inner place end bytes
operand_at inner Target end bytes = target_at inner end bytes
operand_at inner Byte end bytes = as_raw 1 (byte_at end bytes)
operand_at inner Word end bytes = as_raw 2 (number_at 2 end bytes)
operand_at inner DWord end bytes = as_raw 4 (number_at 4 end bytes)

-- one operand of each kind, in order
unfoldable pub operands_at : Reader → List OperandKind → ℕ → List ℕ
    → Reading BodyFault (List TermTree)
operands_at inner [] end bytes = Ok ([], bytes)
operands_at inner (k ∷ ks) end bytes = do
  v ← operand_at inner k end bytes
  vs ← operands_at inner ks end v.1
  Ok (v.0 ∷ vs.0, vs.1)

-- ---- terms, behind their opcodes

unfoldable pub constant_form : ConstantForm → ℕ → List ℕ → Reading BodyFault TermTree
constant_form form end bytes = do
  i ← part (constant_at form end bytes)
  Ok (int i.0, i.1)

unfoldable pub string_form : ℕ → List ℕ → Reading BodyFault TermTree
string_form end bytes = do
  s ← part (string_at end bytes)
  Ok (str s.0, s.1)

unfoldable pub buffer_form : Reader → ℕ → List ℕ → Reading BodyFault TermTree
buffer_form inner end bytes = do
  p ← part (package_at end bytes)
  size ← inner Value p.end p.content
  Ok (buffer size.0 size.1, p.rest)

unfoldable pub package_form : Reader → ℕ → List ℕ → Reading BodyFault TermTree
package_form inner end bytes = do
  p ← part (package_at end bytes)
  count ← part (byte_at p.end p.content)
  es ← each_at (inner Element p.end) count.1
  Ok (pkg count.0 (terms_of es), p.rest)

unfoldable pub var_package_form : Reader → ℕ → List ℕ → Reading BodyFault TermTree
var_package_form inner end bytes = do
  p ← part (package_at end bytes)
  count ← inner Value p.end p.content
  es ← each_at (inner Element p.end) count.1
  Ok (var_pkg count.0 (terms_of es), p.rest)

-- a name calls where a value or a statement stands
abbrev pub calls : Place → Bool
calls Value = true
calls Statement = true
calls _ = false

-- A call, by how many values follow its name, which `bytes` begin with.
abbrev pub call_by : Reader → ℕ → List ℕ → NameParts × List ℕ → Option ℕ
    → Reading BodyFault TermTree
call_by inner end bytes n None = Err (fault_at end bytes Unsure)
call_by inner end bytes n (Some count) = do
  vs ← operands_at inner (values count) end n.1
  Ok (call n.0 (terms_of vs.0), vs.1)

abbrev pub named_by : (NameParts → Option ℕ) → Reader → ℕ → List ℕ → Bool → NameParts × List ℕ
    → Reading BodyFault TermTree
named_by args inner end bytes true n = call_by inner end bytes n (args n.0)
named_by args inner end bytes false n = Ok (ref n.0, n.1)

unfoldable pub name_form : (NameParts → Option ℕ) → Reader → Place → ℕ → List ℕ
    → Reading BodyFault TermTree
name_form args inner place end bytes = do
  n ← part (name_in end bytes)
  named_by args inner end bytes (calls place) n

unfoldable pub operator_form : Reader → Op → ℕ → List ℕ → Reading BodyFault TermTree
operator_form inner op end bytes = do
  vs ← operands_at inner (operands_of op) end bytes
  Ok (apply op (terms_of vs.0), vs.1)

-- A term that is no block and no declaration, by what begins there; `whole` from the opcode on, `rest` behind it.
unfoldable pub form_by : Grammar → Reader → Place → ℕ → List ℕ → Opcode → List ℕ
    → Reading BodyFault TermTree
form_by g inner place end whole (opcodes.Constant form) rest = constant_form form end rest
form_by g inner place end whole opcodes.Str rest = string_form end rest
form_by g inner place end whole opcodes.Buffer rest = buffer_form inner end rest
form_by g inner place end whole opcodes.Package rest = package_form inner end rest
form_by g inner place end whole opcodes.VarPackage rest = var_package_form inner end rest
form_by g inner place end whole (opcodes.Local n) rest = Ok (local n, rest)
form_by g inner place end whole (opcodes.Arg n) rest = Ok (arg n, rest)
form_by g inner place end whole opcodes.Debug rest = Ok (debug, rest)
form_by g inner place end whole opcodes.Name rest = name_form g.args inner place end whole
form_by g inner place end whole (opcodes.Operator op) rest = operator_form inner op end rest
form_by g inner place end whole _ rest = Err (fault_at end whole NotStatement)

abbrev pub unless : {A : Type 0} → Option BodyReason → ℕ → List ℕ → Result A BodyFault
    → Result A BodyFault
unless None end bytes r = r
unless (Some why) end bytes r = Err (fault_at end bytes why)

-- the same, where it may stand there
unfoldable pub placed_by : Grammar → Reader → Place → ℕ → List ℕ → Opcode → List ℕ
    → Reading BodyFault TermTree
placed_by g inner place end whole opcode rest =
    unless (refusal_at g.loads place opcode) end whole (form_by g inner place end whole opcode rest)

-- a term at a place, `level` levels being left
unfoldable pub term_at : Grammar → ℕ → Reader
term_at g zero place end bytes = Err (fault_of (no_level end bytes))
term_at g (suc level) place end bytes = do
  x ← part (opcode_at end bytes)
  placed_by g (term_at g level) place end bytes x.0 x.1

-- ---- field elements, which have no level (20.2.5.2 FieldElement)

abbrev pub fields_in : ℕ → List ℕ → Result (List FieldTree) BodyFault
fields_in end bytes = with_fault constant_fault_of (fields.fields_in end bytes)
