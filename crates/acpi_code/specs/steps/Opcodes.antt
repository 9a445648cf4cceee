-- What begins with which bytes, as the program finds it (ACPI 6.5, 20.3).
use Rattle.std.specs.Prelude.{◌≡◌, ◌↔◌, ℕ, ◌-◌, Bool, true, false, ◌&&◌, Option, Some, None, List, [], ◌∷◌, map, nat_lt, ◌==◌, if◌then◌else◌}
use Rattle.acpi_tree.specs.declared.tree.Width.TheVariants as widths
use Rattle.acpi_tree.specs.Operators.{operators}
use Rattle.acpi_code.specs.declared.opcode.Opcode.{Opcode}
use Rattle.acpi_code.specs.declared.opcode.Opcode.TheVariants as opcodes
use Rattle.acpi_code.specs.declared.opcode.ConstantForm.TheVariants as forms
use Rattle.acpi_code.specs.Opcodes.{opcode_bytes, is_name_start, BeginsWith}

-- the opcodes that have bytes of their own: all but names, Local0 to Local7 and Arg0 to Arg6
abbrev pub fixed_opcodes : List Opcode
fixed_opcodes =
    opcodes.Constant forms.Zero ∷ opcodes.Constant forms.One ∷ opcodes.Constant forms.Ones ∷
    opcodes.Constant forms.Byte ∷ opcodes.Constant forms.Word ∷ opcodes.Constant forms.DWord ∷
    opcodes.Constant forms.QWord ∷ opcodes.Str ∷ opcodes.Buffer ∷ opcodes.Package ∷
    opcodes.VarPackage ∷ opcodes.DeclareName ∷ opcodes.Scope ∷ opcodes.Method ∷
    opcodes.External ∷ opcodes.Create widths.DWord ∷ opcodes.Create widths.Word ∷
    opcodes.Create widths.Byte ∷ opcodes.Create widths.Bit ∷ opcodes.Create widths.QWord ∷
    opcodes.If ∷ opcodes.Else ∷ opcodes.While ∷ opcodes.Alias ∷
    opcodes.Constant forms.Revision ∷ opcodes.Debug ∷ opcodes.Mutex ∷ opcodes.Event ∷
    opcodes.CreateField ∷ opcodes.Region ∷ opcodes.Field ∷ opcodes.Device ∷ opcodes.Processor ∷
    opcodes.Power ∷ opcodes.Thermal ∷ opcodes.IndexField ∷ opcodes.BankField ∷
    opcodes.DataRegion ∷
    map opcodes.Operator operators

-- these are the same bytes
abbrev pub are_same : List ℕ → List ℕ → Bool
are_same [] [] = true
are_same (b ∷ bs) (c ∷ cs) = are_same bs cs && b == c
are_same _ _ = false

-- that of these opcodes which has the bytes
abbrev pub opcode_with : List ℕ → List Opcode → Opcode
opcode_with bytes [] = opcodes.Nothing
opcode_with bytes (o ∷ os) = if are_same bytes (opcode_bytes o) then o else opcode_with bytes os

-- what begins with a byte that is not 5B: names, Local0 to Local7, Arg0 to Arg6, and the opcodes of that byte alone
abbrev pub plain_opcode_of : ℕ → Opcode
plain_opcode_of b =
    if is_name_start b then opcodes.Name else
    if nat_lt 0x5F b && nat_lt b 0x68 then opcodes.Local (b - 0x60) else
    if nat_lt 0x67 b && nat_lt b 0x6F then opcodes.Arg (b - 0x68) else
    opcode_with (b ∷ []) fixed_opcodes

-- what begins with 5B and a byte
abbrev pub extended_opcode_of : ℕ → Opcode
extended_opcode_of b = opcode_with (0x5B ∷ b ∷ []) fixed_opcodes

abbrev pub extended_opcode : List ℕ → Option Opcode
extended_opcode [] = None
extended_opcode (b ∷ rest) = Some (extended_opcode_of b)

-- what the bytes begin with, if they are no lone 5B
abbrev pub first_opcode : List ℕ → Option Opcode
first_opcode [] = None
first_opcode (b ∷ rest) = if b == 0x5B then extended_opcode rest else Some (plain_opcode_of b)

-- its bytes begin this opcode and no other; Local0 to Local7, Arg0 to Arg6
abbrev pub is_spelled : Opcode → Bool
is_spelled opcodes.Name = false
is_spelled opcodes.Nothing = false
is_spelled (opcodes.Local n) = nat_lt n 8
is_spelled (opcodes.Arg n) = nat_lt n 7
is_spelled _ = true

-- they begin with what the program finds, and with nothing else
abbrev pub FindsWhatBegins : Type 0
FindsWhatBegins =
    (bytes : List ℕ) (o : Opcode) → (first_opcode bytes ≡ Some o) ↔ BeginsWith o bytes
