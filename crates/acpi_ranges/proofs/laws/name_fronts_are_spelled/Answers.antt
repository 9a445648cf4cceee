use Rattle.acpi_ranges.proofs.NameFronts.{name_fronts}
use Rattle.acpi_ranges.proofs.laws.name_fronts_are_spelled.Goals as goal

pub returns : goal.returns
returns c = name_fronts
