use Rattle.acpi_locals.proofs.Objects.{lines_declare}
use Rattle.acpi_locals.proofs.laws.paths_have_objects.Goals as goal

pub returns : goal.returns
returns c = lines_declare
