use Rattle.acpi_name.proofs.NameWritten.{name_written}
use Rattle.acpi_name.proofs.laws.shortest_spells.Goals as goal

pub returns : goal.returns
returns c = name_written
