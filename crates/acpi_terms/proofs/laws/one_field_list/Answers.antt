use Rattle.acpi_terms.proofs.OneTree.{one_field_list}
use Rattle.acpi_terms.proofs.laws.one_field_list.Goals as goal

pub returns : goal.returns
returns c = one_field_list
