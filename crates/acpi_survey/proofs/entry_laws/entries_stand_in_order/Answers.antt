use Rattle.acpi_survey.proofs.EntryOrder.{entries_in_order}
use Rattle.acpi_survey.proofs.entry_laws.entries_stand_in_order.Goals as goal

pub returns : goal.returns
returns c = entries_in_order
