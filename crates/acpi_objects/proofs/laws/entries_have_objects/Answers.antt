use Rattle.acpi_objects.proofs.Declared.{entries_have_objects}
use Rattle.acpi_objects.proofs.laws.entries_have_objects.Goals as goal

pub returns : goal.returns
returns c = entries_have_objects
