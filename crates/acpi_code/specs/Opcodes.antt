-- The opcodes (ACPI 6.5, 20.3).
use Rattle.std.specs.Prelude.{◌≡◌, ◌≢◌, ◌+◌, ◌<◌, ℕ, Bool, true, false, ◌||◌, List, [], ◌∷◌, ◌++◌, slice_index, ◌==◌}
use Rattle.acpi_name.specs.Names.{is_lead_char}
use Rattle.acpi_code.specs.declared.opcode.Opcode.{Opcode}
use Rattle.acpi_code.specs.declared.opcode.Opcode.TheVariants as opcodes
use Rattle.acpi_code.specs.declared.opcode.ConstantForm.TheVariants as forms
use Rattle.acpi_tree.specs.declared.tree.Width.{Width}
use Rattle.acpi_tree.specs.declared.tree.Width.TheVariants as widths
use Rattle.acpi_tree.specs.declared.op.Op.{Op}
use Rattle.acpi_tree.specs.Operators.{row_of}

-- ---- the bytes of each opcode

-- CreateDWordFieldOp := 0x8A, CreateWordFieldOp := 0x8B, CreateByteFieldOp := 0x8C, CreateBitFieldOp := 0x8D,
-- CreateQWordFieldOp := 0x8F (20.2.5.2)
abbrev pub width_bytes : Width → List ℕ
width_bytes widths.DWord = 0x8A ∷ []
width_bytes widths.Word = 0x8B ∷ []
width_bytes widths.Byte = 0x8C ∷ []
width_bytes widths.Bit = 0x8D ∷ []
width_bytes widths.QWord = 0x8F ∷ []

-- the operators (20.2.5.3, 20.2.5.4)
abbrev pub operator_bytes : Op → List ℕ
operator_bytes op = (row_of op).opcode

-- The bytes of an opcode (20.3), of which those of two bytes begin with ExtOpPrefix := 0x5B. Names begin in many ways,
-- and what is no opcode has none.
abbrev pub opcode_bytes : Opcode → List ℕ
opcode_bytes (opcodes.Constant forms.Zero) = 0x00 ∷ []
opcode_bytes (opcodes.Constant forms.One) = 0x01 ∷ []
opcode_bytes (opcodes.Constant forms.Ones) = 0xFF ∷ []
opcode_bytes (opcodes.Constant forms.Byte) = 0x0A ∷ []
opcode_bytes (opcodes.Constant forms.Word) = 0x0B ∷ []
opcode_bytes (opcodes.Constant forms.DWord) = 0x0C ∷ []
opcode_bytes (opcodes.Constant forms.QWord) = 0x0E ∷ []
opcode_bytes opcodes.Str = 0x0D ∷ []
opcode_bytes opcodes.Buffer = 0x11 ∷ []
opcode_bytes opcodes.Package = 0x12 ∷ []
opcode_bytes opcodes.VarPackage = 0x13 ∷ []
opcode_bytes opcodes.DeclareName = 0x08 ∷ []
opcode_bytes opcodes.Scope = 0x10 ∷ []
opcode_bytes opcodes.Method = 0x14 ∷ []
opcode_bytes opcodes.External = 0x15 ∷ []
opcode_bytes opcodes.If = 0xA0 ∷ []
opcode_bytes opcodes.Else = 0xA1 ∷ []
opcode_bytes opcodes.While = 0xA2 ∷ []
opcode_bytes opcodes.Alias = 0x06 ∷ []
opcode_bytes (opcodes.Constant forms.Revision) = 0x5B ∷ 0x30 ∷ []
opcode_bytes opcodes.Debug = 0x5B ∷ 0x31 ∷ []
opcode_bytes opcodes.Mutex = 0x5B ∷ 0x01 ∷ []
opcode_bytes opcodes.Event = 0x5B ∷ 0x02 ∷ []
opcode_bytes opcodes.CreateField = 0x5B ∷ 0x13 ∷ []
opcode_bytes opcodes.Region = 0x5B ∷ 0x80 ∷ []
opcode_bytes opcodes.Field = 0x5B ∷ 0x81 ∷ []
opcode_bytes opcodes.Device = 0x5B ∷ 0x82 ∷ []
opcode_bytes opcodes.Processor = 0x5B ∷ 0x83 ∷ []
opcode_bytes opcodes.Power = 0x5B ∷ 0x84 ∷ []
opcode_bytes opcodes.Thermal = 0x5B ∷ 0x85 ∷ []
opcode_bytes opcodes.IndexField = 0x5B ∷ 0x86 ∷ []
opcode_bytes opcodes.BankField = 0x5B ∷ 0x87 ∷ []
opcode_bytes opcodes.DataRegion = 0x5B ∷ 0x88 ∷ []
opcode_bytes (opcodes.Create w) = width_bytes w
opcode_bytes (opcodes.Operator op) = operator_bytes op
opcode_bytes (opcodes.Local n) = (n + 0x60) ∷ []
opcode_bytes (opcodes.Arg n) = (n + 0x68) ∷ []
opcode_bytes opcodes.Name = []
opcode_bytes opcodes.Nothing = []

-- ---- what begins with which bytes

-- a name in the place of a term begins so: with '\', '^', '.', '/' or a lead character (20.2.2 NameString)
abbrev pub is_name_start : ℕ → Bool
is_name_start b = b == 0x5C || b == 0x5E || b == 0x2E || b == 0x2F || is_lead_char b

-- the bytes begin so: with the first character of a name, or with the bytes of an opcode; Local0 to Local7, Arg0 to Arg6
abbrev pub BeginsTerm : Opcode → List ℕ → Type 0
BeginsTerm opcodes.Name bytes = is_name_start (slice_index bytes 0) ≡ true
BeginsTerm opcodes.Nothing bytes = ⊥
BeginsTerm (opcodes.Local n) bytes = (n < 8) × (rest : List ℕ) × (bytes ≡ (n + 0x60) ∷ rest)
BeginsTerm (opcodes.Arg n) bytes = (n < 7) × (rest : List ℕ) × (bytes ≡ (n + 0x68) ∷ rest)
BeginsTerm o bytes = (rest : List ℕ) × (bytes ≡ opcode_bytes o ++ rest)

-- What the bytes begin with: nothing that is known where they begin in none of these ways, and are more than a lone 5B.
abbrev pub BeginsWith : Opcode → List ℕ → Type 0
BeginsWith opcodes.Nothing bytes =
    (bytes ≢ []) × (bytes ≢ 0x5B ∷ []) × ((o : Opcode) → ¬ BeginsTerm o bytes)
BeginsWith o bytes = BeginsTerm o bytes

-- ---- kinds of opcodes

abbrev pub is_name_opcode : Opcode → Bool
is_name_opcode opcodes.Name = true
is_name_opcode _ = false

-- SimpleName := NameString | ArgObj | LocalObj (20.2.2)
abbrev pub is_simple_name_opcode : Opcode → Bool
is_simple_name_opcode (opcodes.Local n) = true
is_simple_name_opcode (opcodes.Arg n) = true
is_simple_name_opcode o = is_name_opcode o

-- ConstObj, and the numbers and RevisionOp of ComputationalData (20.2.3)
abbrev pub is_constant : Opcode → Bool
is_constant (opcodes.Constant form) = true
is_constant _ = false

-- data that is no constant: a string, Buffer, Package, VarPackage (20.2.3)
abbrev pub is_other_data : Opcode → Bool
is_other_data opcodes.Str = true
is_other_data opcodes.Buffer = true
is_other_data opcodes.Package = true
is_other_data opcodes.VarPackage = true
is_other_data _ = false

-- DataObject (20.2.3)
abbrev pub is_data_opcode : Opcode → Bool
is_data_opcode o = is_constant o || is_other_data o
