use Rattle.acpi_survey.proofs.SureCounts.{sure_counts_hold}
use Rattle.acpi_survey.proofs.laws.sure_counts_hold.Goals as goal

pub returns : goal.returns
returns c = sure_counts_hold
