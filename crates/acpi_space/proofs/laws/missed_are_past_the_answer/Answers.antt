use Rattle.acpi_space.proofs.LongestAnswer.{missed_are_past, missed_is_place}
use Rattle.acpi_space.proofs.laws.missed_are_past_the_answer.Goals as goal

pub returns-clause-plain : goal.returns-clause-plain
returns-clause-plain c = missed_are_past

pub returns-clause-other : goal.returns-clause-other
returns-clause-other c = missed_is_place
