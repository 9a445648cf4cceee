use Rattle.acpi_locals.proofs.Reaching.{lines_are_reached}
use Rattle.acpi_locals.proofs.laws.lines_are_reached.Goals as goal

pub returns : goal.returns
returns c = lines_are_reached
