-- What a wrong body leaves open is named here: its refusal then names it, and needs no second search.
use Rattle.std.proofs.Common.{rules}
use Rattle.acpi_terms.proofs.block.fault_of_block.Goals as goal

pub returns-in-At-TooDeep-default : goal.returns-in-At-TooDeep-default
returns-in-At-TooDeep-default c = search rules
