use Rattle.acpi_conservative.proofs.ObjectParts.{strict_read_is_declared}
use Rattle.acpi_conservative.proofs.laws.strict_objects_have_parts.Goals as goal

pub returns : goal.returns
returns c = strict_read_is_declared
