use Rattle.acpi_ranges.proofs.NodesInTables.{entries_have_parts}
use Rattle.acpi_ranges.proofs.laws.entries_have_parts.Goals as goal

pub returns : goal.returns
returns c = entries_have_parts
