-- What a wrong body leaves open is named here: its refusal then names it, and needs no second search.
use Rattle.std.proofs.Common.{rules}
use Rattle.acpi_name.specs.Reading.{segment_at}
use Rattle.acpi_name.proofs.reading.skip_segment.Goals as goal

pub returns-then-bytes-lt4-clause-exact : goal.returns-then-bytes-lt4-clause-exact
unfolding segment_at
returns-then-bytes-lt4-clause-exact c = search rules
