use Rattle.acpi_findings.proofs.MarksStand.{marks_stand}
use Rattle.acpi_findings.proofs.laws.marks_stand_where_spelled.Goals as goal

pub returns : goal.returns
returns c = marks_stand
