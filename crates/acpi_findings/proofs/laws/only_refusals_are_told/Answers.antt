use Rattle.acpi_findings.proofs.Telling.{only_refusals_are_told}
use Rattle.acpi_findings.proofs.laws.only_refusals_are_told.Goals as goal

pub returns : goal.returns
returns c = only_refusals_are_told
