-- Reading constants and field elements from left to right, up to the first fault, over the readings of parts.
use Rattle.std.specs.Prelude.{◌-◌, ℕ, List, length, Result, Ok, Err, ◌==◌, if◌then◌else◌}
use Rattle.acpi_tree.specs.declared.tree.Int.{Int}
use Rattle.acpi_tree.specs.Tree.{FieldTree, unit, reserved, access, connect_name, connect_buffer, extended}
use Rattle.acpi_code.specs.declared.fault.CodeFault.{CodeFault}
use Rattle.acpi_code.specs.declared.fault.ConstantFault.{ConstantFault}
use Rattle.acpi_code.specs.declared.fault.ConstantFault.TheVariants.{Part, NotConstant}
use Rattle.acpi_code.specs.declared.opcode.Opcode.{Opcode}
use Rattle.acpi_code.specs.declared.opcode.Opcode.TheVariants as opcodes
use Rattle.acpi_code.specs.steps.Reading.{◌>>=◌, Reading, with_fault, each_at, byte_at, length_in, package_at, name_in, segment_in, opcode_at, constant_at}

-- the reading of a part, with its fault as one of what holds it
abbrev pub part : {A : Type 0} → Result A CodeFault → Result A ConstantFault
part read = with_fault (λ f. Part f) read

-- ---- constants

-- at a constant's place, by what begins there
abbrev pub int_by : ℕ → List ℕ → Opcode → List ℕ → Reading ConstantFault Int
int_by end whole (opcodes.Constant form) rest = part (constant_at form end rest)
int_by end whole opcode rest = Err (NotConstant opcode (end - length whole))

-- a constant integer (20.2.3)
unfoldable pub int_in : ℕ → List ℕ → Reading ConstantFault Int
int_in end bytes = do
  x ← part (opcode_at end bytes)
  int_by end bytes x.0 x.1

-- ---- field elements (20.2.5.2 FieldElement)

-- ConnectField by a buffer, whose size is a constant
unfoldable pub connect_buffer_at : ℕ → List ℕ → Reading ConstantFault FieldTree
connect_buffer_at end bytes = do
  p ← part (package_at end bytes)
  size ← int_in p.end p.content
  Ok (connect_buffer size.0 size.1, p.rest)

unfoldable pub connect_name_at : ℕ → List ℕ → Reading ConstantFault FieldTree
connect_name_at end bytes = do
  n ← part (name_in end bytes)
  Ok (connect_name n.0, n.1)

-- ConnectField
unfoldable pub connect_at : ℕ → List ℕ → Reading ConstantFault FieldTree
connect_at end bytes = do
  b ← part (byte_at end bytes)
  if b.0 == 0x11 then connect_buffer_at end b.1 else connect_name_at end bytes

-- NamedField
unfoldable pub unit_at : ℕ → List ℕ → Reading ConstantFault FieldTree
unit_at end bytes = do
  g ← part (segment_in end bytes)
  bits ← part (length_in end g.1)
  Ok (unit g.0 bits.0, bits.1)

-- ReservedField
unfoldable pub reserved_at : ℕ → List ℕ → Reading ConstantFault FieldTree
reserved_at end bytes = do
  bits ← part (length_in end bytes)
  Ok (reserved bits.0, bits.1)

-- AccessField
unfoldable pub access_at : ℕ → List ℕ → Reading ConstantFault FieldTree
access_at end bytes = do
  kind ← part (byte_at end bytes)
  attribute ← part (byte_at end kind.1)
  Ok (access kind.0 attribute.0, attribute.1)

-- ExtendedAccessField
unfoldable pub extended_at : ℕ → List ℕ → Reading ConstantFault FieldTree
extended_at end bytes = do
  kind ← part (byte_at end bytes)
  attribute ← part (byte_at end kind.1)
  len ← part (byte_at end attribute.1)
  Ok (extended kind.0 attribute.0 len.0, len.1)

-- a field element, by its first byte
abbrev pub field_by : ℕ → List ℕ → ℕ → List ℕ → Reading ConstantFault FieldTree
field_by end whole b rest =
    if b == 0x00 then reserved_at end rest else
    if b == 0x01 then access_at end rest else
    if b == 0x02 then connect_at end rest else
    if b == 0x03 then extended_at end rest else
    unit_at end whole

unfoldable pub field_at : ℕ → List ℕ → Reading ConstantFault FieldTree
field_at end bytes = do
  b ← part (byte_at end bytes)
  field_by end bytes b.0 b.1

abbrev pub fields_in : ℕ → List ℕ → Result (List FieldTree) ConstantFault
fields_in end bytes = each_at (field_at end) bytes
