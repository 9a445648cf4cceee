-- What a wrong body leaves open is named here: its refusal then names it, and needs no second search.
use Rattle.std.proofs.Common.{rules}
use Rattle.acpi_name.specs.Reading.{counted_at}
use Rattle.acpi_name.proofs.reading.counted.Goals as goal

pub returns-in-0-clause-exact : goal.returns-in-0-clause-exact
unfolding counted_at
returns-in-0-clause-exact c = search rules
