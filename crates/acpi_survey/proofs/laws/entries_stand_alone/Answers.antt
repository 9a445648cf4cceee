use Rattle.acpi_survey.proofs.RunEntries.{entries_stand_alone}
use Rattle.acpi_survey.proofs.laws.entries_stand_alone.Goals as goal

pub returns : goal.returns
returns c = entries_stand_alone
