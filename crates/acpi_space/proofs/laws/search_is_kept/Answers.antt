use Rattle.acpi_space.specs.Search.{tries}
use Rattle.acpi_space.proofs.KeptSearches.{kept_find, kept_skipped}
use Rattle.acpi_space.proofs.laws.search_is_kept.Goals as goal

pub returns-clause-answer : goal.returns-clause-answer
returns-clause-answer c small large s n kept = kept_find small large kept.0 (tries s n) kept.1

pub returns-clause-missed : goal.returns-clause-missed
returns-clause-missed c small large s n kept = kept_skipped small large kept.0 (tries s n) kept.1
