use Rattle.acpi_declare.proofs.Refusals.{one_load}
use Rattle.acpi_declare.proofs.laws.one_load.Goals as goal

pub returns : goal.returns
returns c = one_load
