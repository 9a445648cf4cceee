use Rattle.acpi_terms.proofs.OneTree.{one_data_tree}
use Rattle.acpi_terms.proofs.laws.one_data_tree.Goals as goal

pub returns : goal.returns
returns c = one_data_tree
