use Rattle.acpi_code.proofs.Opcodes.{finds}
use Rattle.acpi_code.proofs.laws.program_finds_what_begins.Goals as goal

pub returns : goal.returns
returns c = finds
