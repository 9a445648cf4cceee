use Rattle.acpi_survey.proofs.OneReading.{tables_are_read}
use Rattle.acpi_survey.proofs.laws.tables_are_read.Goals as goal

pub returns : goal.returns
returns c = tables_are_read
