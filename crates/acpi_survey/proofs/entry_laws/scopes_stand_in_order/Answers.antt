use Rattle.acpi_survey.proofs.KeptOrder.{scopes_in_order}
use Rattle.acpi_survey.proofs.entry_laws.scopes_stand_in_order.Goals as goal

pub returns : goal.returns
returns c = scopes_in_order
