use Rattle.acpi_survey.proofs.TableWalks.{read_is_survey}
use Rattle.acpi_survey.proofs.laws.read_is_survey.Goals as goal

pub returns : goal.returns
returns c = read_is_survey
