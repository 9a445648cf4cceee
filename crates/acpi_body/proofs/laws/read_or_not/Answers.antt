use Rattle.acpi_body.proofs.ReadBodies.{read_or_none}
use Rattle.acpi_body.proofs.laws.read_or_not.Goals as goal

pub returns : goal.returns
returns c = read_or_none
