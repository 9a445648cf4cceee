use Rattle.acpi_survey.proofs.OneReading.{at_most_one}
use Rattle.acpi_survey.proofs.laws.at_most_one_reading.Goals as goal

pub returns : goal.returns
returns c = at_most_one
