use Rattle.acpi_terms.proofs.OneTree.{one_item_tree}
use Rattle.acpi_terms.proofs.laws.one_item_tree.Goals as goal

pub returns : goal.returns
returns c = one_item_tree
