-- Numbers, paths, names and terms as values of JSON.
use Rattle.std.specs.Prelude.{ℕ, nat_lt, if◌then◌else◌, List, Option, Some, None, decimal}
use Rattle.acpi_name.specs.Names.{NameParts, Segment}
use Rattle.acpi_name.specs.Text.{name_text, path_text}
use Rattle.acpi_text.specs.Terms.{term_text}
use Rattle.acpi_tree.specs.declared.tree.Int.{Int}
use Rattle.acpi_tree.specs.declared.tree.Int.TheVariants as ints
use Rattle.acpi_tree.specs.Terms.{TermTree, int}
use Rattle.acpins_survey_json.specs.Json.{Value, null, number, string, array, values_of}

-- a number, or from 2^53 on the text of its digits: not every program keeps such a number exactly
abbrev pub number_value : ℕ → Value
number_value n = if nat_lt n 9007199254740992 then number n else string (decimal n)

abbrev pub path_value : List Segment → Value
path_value p = string (path_text p)

abbrev pub paths_value : List (List Segment) → Value
paths_value ps = array (values_of path_value ps)

abbrev pub name_value : NameParts → Value
name_value n = string (name_text n)

-- null where there is nothing
abbrev pub value_or_null : {X : Type 0} → (X → Value) → Option X → Value
value_or_null f None = null
value_or_null f (Some x) = f x

-- ---- terms

abbrev pub printed_term : TermTree → Value
printed_term t = string (term_text t)

-- the number of a constant; Ones and Revision depend on the revision of the table
abbrev pub int_number : Int → Option ℕ
int_number ints.Zero = Some 0
int_number ints.One = Some 1
int_number (ints.Byte n) = Some n
int_number (ints.Word n) = Some n
int_number (ints.DWord n) = Some n
int_number (ints.QWord n) = Some n
int_number _ = None

abbrev pub constant_number : TermTree → Option ℕ
constant_number (int i) = int_number i
constant_number _ = None

abbrev pub number_or_term : Option ℕ → TermTree → Value
number_or_term None t = printed_term t
number_or_term (Some n) t = number_value n

-- a number where the term is one, and else its text
abbrev pub term_value : TermTree → Value
term_value t = number_or_term (constant_number t) t
