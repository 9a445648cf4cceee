-- Constants: what is spelled is read.
use Rattle.std.proofs.Common.{◌≡◌, ℕ, ◌<◌, List, ◌∷◌, ◌++◌, length, Ok, refl, arith}
use Rattle.acpi_tree.specs.declared.tree.Int.{Int}
use Rattle.acpi_tree.specs.declared.tree.Int.TheVariants.{Zero, One, Ones, Revision, Byte, Word, DWord, QWord}
use Rattle.acpi_code.specs.declared.opcode.ConstantForm.{ConstantForm}
use Rattle.acpi_code.specs.declared.opcode.ConstantForm.TheVariants as forms
use Rattle.acpi_code.specs.declared.opcode.Opcode.TheVariants as opcodes
use Rattle.acpi_code.specs.Opcodes.{opcode_bytes}
use Rattle.acpi_code.specs.Spelling.{SpellsInt}
use Rattle.acpi_code.specs.steps.Reading.{byte_at, opcode_at, constant_at}
use Rattle.acpi_code.specs.steps.Fields.{int_in}
use Rattle.acpi_code.proofs.Opcodes.{opens}
use Rattle.acpi_code.proofs.Numbers.{number_complete}

-- the form of a constant
abbrev pub form_of : Int → ConstantForm
form_of Zero = forms.Zero
form_of One = forms.One
form_of Ones = forms.Ones
form_of Revision = forms.Revision
form_of (Byte n) = forms.Byte
form_of (Word n) = forms.Word
form_of (DWord n) = forms.DWord
form_of (QWord n) = forms.QWord

pub int_long : (i : Int) (bytes : List ℕ) → SpellsInt i bytes → 0 < length bytes
int_long Zero bytes h = rw h (omega arith)
int_long One bytes h = rw h (omega arith)
int_long Ones bytes h = rw h (omega arith)
int_long Revision bytes h = rw h (omega arith)
int_long (Byte n) bytes h = rw h (omega arith)
int_long (Word n) bytes h = rw h.2 (omega arith)
int_long (DWord n) bytes h = rw h.2 (omega arith)
int_long (QWord n) bytes h = rw h.2 (omega arith)

-- its opcode begins there, and what is behind that is read
abbrev pub IntOpens : ℕ → Int → List ℕ → List ℕ → Type 0
IntOpens end i bytes rest = (more : List ℕ) × (opcode_at end (bytes ++ rest) ≡ Ok (opcodes.Constant (form_of i), more)) × (constant_at (form_of i) end more ≡ Ok (i, rest))

pub int_opens : (i : Int) (end : ℕ) (bytes rest : List ℕ) → SpellsInt i bytes → IntOpens end i bytes rest
unfolding byte_at
int_opens Zero end bytes rest h = (rest, rw h (opens end (opcodes.Constant forms.Zero) rest refl), refl)
int_opens One end bytes rest h = (rest, rw h (opens end (opcodes.Constant forms.One) rest refl), refl)
int_opens Ones end bytes rest h = (rest, rw h (opens end (opcodes.Constant forms.Ones) rest refl), refl)
int_opens Revision end bytes rest h = (rest, rw h (opens end (opcodes.Constant forms.Revision) rest refl), refl)
int_opens (Byte n) end bytes rest h = (n ∷ rest, rw h (opens end (opcodes.Constant forms.Byte) (n ∷ rest) refl), refl)
int_opens (Word n) end bytes rest h = (h.0 ++ rest, rw h.2 (opens end (opcodes.Constant forms.Word) (h.0 ++ rest) refl), rw (number_complete 2 n end h.0 rest h.1) refl)
int_opens (DWord n) end bytes rest h = (h.0 ++ rest, rw h.2 (opens end (opcodes.Constant forms.DWord) (h.0 ++ rest) refl), rw (number_complete 4 n end h.0 rest h.1) refl)
int_opens (QWord n) end bytes rest h = (h.0 ++ rest, rw h.2 (opens end (opcodes.Constant forms.QWord) (h.0 ++ rest) refl), rw (number_complete 8 n end h.0 rest h.1) refl)

-- what stands behind the opcode
abbrev pub SpellsRest : ConstantForm → Int → List ℕ → Type 0
SpellsRest form i bytes = SpellsInt i (opcode_bytes (opcodes.Constant form) ++ bytes)

-- ---- with their opcodes

pub int_complete : (i : Int) (end : ℕ) (bytes rest : List ℕ) → SpellsInt i bytes → int_in end (bytes ++ rest) ≡ Ok (i, rest)
unfolding int_in
int_complete i end bytes rest h = let o = int_opens i end bytes rest h in rw (o.1, o.2) refl
