use Rattle.acpi_space.specs.Search.{tries}
use Rattle.acpi_space.proofs.KeptSearches.{fewer_skipped}
use Rattle.acpi_space.proofs.laws.missed_are_fewer.Goals as goal

pub returns : goal.returns
returns c small large s n up p m = fewer_skipped small large up (tries s n) p m
