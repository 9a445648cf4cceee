use Rattle.acpi_body.proofs.ReadBodies.{one_reading}
use Rattle.acpi_body.proofs.laws.at_most_one_reading.Goals as goal

pub returns : goal.returns
returns c = one_reading
