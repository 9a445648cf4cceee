use Rattle.acpi_conditions.proofs.SeenIsTrue.{candidates_cover, seen_is_true, links_cover}
use Rattle.acpi_conditions.proofs.laws.links_are_sound.Goals as goal

pub returns-clause-candidates : goal.returns-clause-candidates
returns-clause-candidates c = candidates_cover

pub returns-clause-seen : goal.returns-clause-seen
returns-clause-seen c = seen_is_true

pub returns-clause-links : goal.returns-clause-links
returns-clause-links c = links_cover
