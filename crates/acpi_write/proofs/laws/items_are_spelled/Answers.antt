use Rattle.acpi_write.proofs.ItemsWritten.{items_written}
use Rattle.acpi_write.proofs.laws.items_are_spelled.Goals as goal

pub returns : goal.returns
returns c = items_written
