-- Predicates that are constants.
use Rattle.std.specs.Prelude.{Bool, true, false, not, nat_eq, Option, Some, None}
use Rattle.acpi_tree.specs.declared.tree.Int.{Int}
use Rattle.acpi_tree.specs.declared.tree.Int.TheVariants as ints
use Rattle.acpi_tree.specs.Terms.{TermTree, int}

-- whether a constant is true, which any but 0 is, as it is written; Revision is none here
abbrev pub int_truth : Int → Option Bool
int_truth ints.Zero = Some false
int_truth ints.One = Some true
int_truth ints.Ones = Some true
int_truth ints.Revision = None
int_truth (ints.Byte n) = Some (not (nat_eq n 0))
int_truth (ints.Word n) = Some (not (nat_eq n 0))
int_truth (ints.DWord n) = Some (not (nat_eq n 0))
int_truth (ints.QWord n) = Some (not (nat_eq n 0))

abbrev pub truth_of : TermTree → Option Bool
truth_of (int i) = int_truth i
truth_of _ = None
