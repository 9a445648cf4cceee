use Rattle.acpi_order.proofs.Found.{awaited_is_found}
use Rattle.acpi_order.proofs.laws.awaited_is_found.Goals as goal

pub returns : goal.returns
returns c = awaited_is_found
