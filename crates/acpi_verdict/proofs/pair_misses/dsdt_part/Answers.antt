-- What a wrong body leaves open is named here: its refusal then names it, and needs no second search.
use Rattle.std.proofs.Common.{rules}
use Rattle.acpi_verdict.proofs.pair_misses.dsdt_part.Goals as goal

pub returns-else-affected : goal.returns-else-affected
returns-else-affected g c = search rules
