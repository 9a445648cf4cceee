use Rattle.acpi_places.proofs.Once.{one_code_places}
use Rattle.acpi_places.proofs.laws.one_code_places.Goals as goal

pub returns : goal.returns
returns c = one_code_places
