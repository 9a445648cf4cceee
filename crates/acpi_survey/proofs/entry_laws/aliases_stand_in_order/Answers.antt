use Rattle.acpi_survey.proofs.KeptOrder.{aliases_in_order}
use Rattle.acpi_survey.proofs.entry_laws.aliases_stand_in_order.Goals as goal

pub returns : goal.returns
returns c = aliases_in_order
