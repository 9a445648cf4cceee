use Rattle.acpi_findings.proofs.Telling.{each_refusal_is_told}
use Rattle.acpi_findings.proofs.laws.each_refusal_is_told.Goals as goal

pub returns : goal.returns
returns c = each_refusal_is_told
