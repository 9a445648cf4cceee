use Rattle.acpi_survey.proofs.Growing.{places_are_distinct}
use Rattle.acpi_survey.proofs.laws.places_are_distinct.Goals as goal

pub returns : goal.returns
returns c = places_are_distinct
