use Rattle.acpi_places.proofs.Apart.{each_is_placed}
use Rattle.acpi_places.proofs.laws.each_is_placed.Goals as goal

pub returns : goal.returns
returns c = each_is_placed
