use Rattle.acpi_terms.proofs.OneRefusal.{alias_is_no_data}
use Rattle.acpi_terms.proofs.laws.alias_is_no_data.Goals as goal

pub returns : goal.returns
returns c = alias_is_no_data
