-- What a wrong body leaves open is named here: its refusal then names it, and needs no second search.
use Rattle.std.proofs.Common.{rules}
use Rattle.acpi_space.proofs.wanted.wanted_misses.Goals as goal

pub returns-clause-missed : goal.returns-clause-missed
returns-clause-missed g c = search rules
