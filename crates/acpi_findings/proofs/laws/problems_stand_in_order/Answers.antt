use Rattle.acpi_findings.proofs.ProblemsOrder.{problems_in_order}
use Rattle.acpi_findings.proofs.laws.problems_stand_in_order.Goals as goal

pub returns : goal.returns
returns c = problems_in_order
