-- What is known of numbers without running code (ACPI 6.5, 19.6 and 20.2.3).
use Rattle.std.specs.Prelude.{ℕ, Bool, true, false, Option, Some, None}
use Rattle.acpi_tree.specs.declared.tree.Int.{Int}
use Rattle.acpi_tree.specs.declared.tree.Int.TheVariants as ints
use Rattle.acpi_tree.specs.declared.term.Term.{Term}
use Rattle.acpi_tree.specs.declared.term.Term.TheVariants as terms
use Rattle.acpi_overview.specs.declared.value.Value.{Value}
use Rattle.acpi_overview.specs.declared.value.Value.TheVariants as values

-- the number of a constant; Revision has none before a program runs
abbrev pub integer_value : Int → Option ℕ
integer_value ints.Zero = Some 0
integer_value ints.One = Some 1
integer_value ints.Ones = Some 0xFFFFFFFFFFFFFFFF
integer_value ints.Revision = None
integer_value (ints.Byte n) = Some n
integer_value (ints.Word n) = Some n
integer_value (ints.DWord n) = Some n
integer_value (ints.QWord n) = Some n

-- the number of a term that is a constant integer
abbrev pub term_number : Term → Option ℕ
term_number (terms.Int int) = integer_value int
term_number _ = None

-- the number of a value that is a constant integer
abbrev pub value_number : Value → Option ℕ
value_number (values.Number n) = Some n
value_number _ = None

-- whether nothing declares the value
abbrev pub is_missing : Value → Bool
is_missing values.Missing = true
is_missing _ = false
