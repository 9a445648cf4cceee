use Rattle.acpi_space.proofs.LongestAnswer.{plain_is_longest, other_is_at_place}
use Rattle.acpi_space.proofs.laws.search_is_longest.Goals as goal

pub returns-clause-plain : goal.returns-clause-plain
returns-clause-plain c = plain_is_longest

pub returns-clause-other : goal.returns-clause-other
returns-clause-other c = other_is_at_place
