-- The forms of terms by their opcodes: which fixed arguments each has (ACPI 6.5, 20.2.5).
use Rattle.std.specs.Prelude.{ℕ, List, [], ◌∷◌}
use Rattle.acpi_name.specs.Names.{NameParts}
use Rattle.acpi_tree.specs.declared.tree.Int.{Int}
use Rattle.acpi_tree.specs.declared.tree.ScopeKind.{ScopeKind}
use Rattle.acpi_tree.specs.declared.tree.ScopeKind.TheVariants as kinds
use Rattle.acpi_tree.specs.declared.place.NamedForm.{NamedForm}
use Rattle.acpi_tree.specs.declared.place.NamedForm.TheVariants as named
use Rattle.acpi_tree.specs.declared.place.UnitsForm.{UnitsForm}
use Rattle.acpi_tree.specs.declared.place.UnitsForm.TheVariants as units
use Rattle.acpi_tree.specs.Tree.{ExternalParts}
use Rattle.acpi_code.specs.declared.opcode.Opcode.{Opcode}
use Rattle.acpi_code.specs.declared.opcode.Opcode.TheVariants as opcodes

-- A fixed argument. A source is a name in the place of a term; a count is one of arguments, 0 to 7; an int is a
-- constant that is a term.
pub data FixedArgument : Type 0 where
  name_arg : FixedArgument
  source_arg : FixedArgument
  byte_arg : FixedArgument
  word_arg : FixedArgument
  dword_arg : FixedArgument
  count_arg : FixedArgument
  int_arg : FixedArgument

-- what its value is
abbrev pub Value : FixedArgument → Type 0
Value name_arg = NameParts
Value source_arg = NameParts
Value byte_arg = ℕ
Value word_arg = ℕ
Value dword_arg = ℕ
Value count_arg = ℕ
Value int_arg = Int

-- the values of several
abbrev pub Values : List FixedArgument → Type 0
Values [] = Unit {0}
Values (k ∷ ks) = Value k × Values ks

-- ---- what stands behind each opcode

-- The fixed arguments of each form: behind its opcode, or first in its package (20.2.5.1, 20.2.5.2, 20.2.5.4). A
-- Processor is as ACPI 6.3 and earlier have it.
abbrev pub fixed_arguments : Opcode → List FixedArgument
-- DefBuffer := BufferOp PkgLength BufferSize ByteList (20.2.5.4)
fixed_arguments opcodes.Buffer = int_arg ∷ []
-- DefPackage := PackageOp PkgLength NumElements PackageElementList (20.2.5.4)
fixed_arguments opcodes.Package = byte_arg ∷ []
-- DefVarPackage := VarPackageOp PkgLength VarNumElements PackageElementList (20.2.5.4)
fixed_arguments opcodes.VarPackage = int_arg ∷ []
-- DefScope := ScopeOp PkgLength NameString TermList (20.2.5.1)
fixed_arguments opcodes.Scope = name_arg ∷ []
-- DefMethod := MethodOp PkgLength NameString MethodFlags TermList (20.2.5.2)
fixed_arguments opcodes.Method = name_arg ∷ byte_arg ∷ []
-- DefExternal := ExternalOp NameString ObjectType ArgumentCount (20.2.5.2)
fixed_arguments opcodes.External = name_arg ∷ byte_arg ∷ count_arg ∷ []
-- DefCreateDWordField := CreateDWordFieldOp SourceBuff ByteIndex NameString, and so for the other widths;
-- DefCreateBitField has a BitIndex (20.2.5.2)
fixed_arguments (opcodes.Create w) = source_arg ∷ int_arg ∷ name_arg ∷ []
-- DefCreateField := CreateFieldOp SourceBuff BitIndex NumBits NameString (20.2.5.2)
fixed_arguments opcodes.CreateField = source_arg ∷ int_arg ∷ int_arg ∷ name_arg ∷ []
-- DefMutex := MutexOp NameString SyncFlags (20.2.5.2)
fixed_arguments opcodes.Mutex = name_arg ∷ byte_arg ∷ []
-- DefEvent := EventOp NameString (20.2.5.2)
fixed_arguments opcodes.Event = name_arg ∷ []
-- DefOpRegion := OpRegionOp NameString RegionSpace RegionOffset RegionLen (20.2.5.2)
fixed_arguments opcodes.Region = name_arg ∷ byte_arg ∷ int_arg ∷ int_arg ∷ []
-- DefField := FieldOp PkgLength NameString FieldFlags FieldList (20.2.5.2)
fixed_arguments opcodes.Field = name_arg ∷ byte_arg ∷ []
-- DefIndexField := IndexFieldOp PkgLength NameString NameString FieldFlags FieldList (20.2.5.2)
fixed_arguments opcodes.IndexField = name_arg ∷ name_arg ∷ byte_arg ∷ []
-- DefBankField := BankFieldOp PkgLength NameString NameString BankValue FieldFlags FieldList (20.2.5.2)
fixed_arguments opcodes.BankField = name_arg ∷ name_arg ∷ int_arg ∷ byte_arg ∷ []
-- DefDevice := DeviceOp PkgLength NameString TermList (20.2.5.2)
fixed_arguments opcodes.Device = name_arg ∷ []
-- DefProcessor := ProcessorOp PkgLength NameString ProcID PblkAddr PblkLen TermList (ACPI 6.3, 20.2.5.2)
fixed_arguments opcodes.Processor = name_arg ∷ byte_arg ∷ dword_arg ∷ byte_arg ∷ []
-- DefPowerRes := PowerResOp PkgLength NameString SystemLevel ResourceOrder TermList (20.2.5.2)
fixed_arguments opcodes.Power = name_arg ∷ byte_arg ∷ word_arg ∷ []
-- DefThermalZone := ThermalZoneOp PkgLength NameString TermList (20.2.5.2)
fixed_arguments opcodes.Thermal = name_arg ∷ []
fixed_arguments _ = []

-- their values
abbrev pub ArgumentsOf : Opcode → Type 0
ArgumentsOf opcode = Values (fixed_arguments opcode)

-- the opcodes of declarations (20.2.5.1, 20.2.5.2)
abbrev pub named_opcode : NamedForm → Opcode
named_opcode named.Name = opcodes.DeclareName
named_opcode (named.Create w) = opcodes.Create w
named_opcode named.CreateField = opcodes.CreateField
named_opcode named.Region = opcodes.Region
named_opcode named.Mutex = opcodes.Mutex
named_opcode named.Event = opcodes.Event

abbrev pub units_opcode : UnitsForm → Opcode
units_opcode units.Field = opcodes.Field
units_opcode units.IndexField = opcodes.IndexField
units_opcode units.BankField = opcodes.BankField

-- the opcode of what opens a scope for items (20.2.5.1, 20.2.5.2)
abbrev pub kind_opcode : ScopeKind → Opcode
kind_opcode kinds.Scope = opcodes.Scope
kind_opcode kinds.Device = opcodes.Device
kind_opcode (kinds.Processor id block len) = opcodes.Processor
kind_opcode (kinds.Power level order) = opcodes.Power
kind_opcode kinds.Thermal = opcodes.Thermal

-- its arguments, with its name
abbrev pub kind_arguments : (kind : ScopeKind) → NameParts → ArgumentsOf (kind_opcode kind)
kind_arguments kinds.Scope n = (n, tt)
kind_arguments kinds.Device n = (n, tt)
kind_arguments (kinds.Processor id block len) n = (n, (id, (block, (len, tt))))
kind_arguments (kinds.Power level order) n = (n, (level, (order, tt)))
kind_arguments kinds.Thermal n = (n, tt)

-- the parts of an External
abbrev pub external_parts : ArgumentsOf opcodes.External → ExternalParts
external_parts v = record { name = v.0; kind = v.1.0; args = v.1.1.0 }
