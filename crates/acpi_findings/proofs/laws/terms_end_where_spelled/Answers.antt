use Rattle.acpi_findings.proofs.MarksStand.{terms_end}
use Rattle.acpi_findings.proofs.laws.terms_end_where_spelled.Goals as goal

pub returns : goal.returns
returns c = terms_end
