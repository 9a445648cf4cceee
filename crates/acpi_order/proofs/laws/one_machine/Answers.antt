use Rattle.acpi_order.proofs.Joined.{one_machine}
use Rattle.acpi_order.proofs.laws.one_machine.Goals as goal

pub returns : goal.returns
returns c = one_machine
