-- Constants as a form and a value (ACPI 6.5, 20.2.3 ConstObj and ComputationalData).
use Rattle.std.specs.Prelude.{ℕ}
use Rattle.acpi_tree.specs.declared.tree.Int.{Int}
use Rattle.acpi_tree.specs.declared.tree.Int.TheVariants.{Zero, One, Ones, Revision, Byte, Word, DWord, QWord}

-- the form in which a constant was written
abbrev pub form_of : Int → ℕ
form_of Zero = 0
form_of One = 1
form_of Ones = 2
form_of Revision = 3
form_of (Byte n) = 4
form_of (Word n) = 5
form_of (DWord n) = 6
form_of (QWord n) = 7

-- .. and its value; what a Revision is only a run of code tells
abbrev pub value_of : Int → ℕ
value_of Zero = 0
value_of One = 1
value_of Ones = 18446744073709551615
value_of Revision = 0
value_of (Byte n) = n
value_of (Word n) = n
value_of (DWord n) = n
value_of (QWord n) = n
