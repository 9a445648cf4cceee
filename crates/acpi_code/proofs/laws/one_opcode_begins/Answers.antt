use Rattle.acpi_code.proofs.Opcodes.{one_begins}
use Rattle.acpi_code.proofs.laws.one_opcode_begins.Goals as goal

pub returns : goal.returns
returns c = one_begins
