use Rattle.acpi_conditions.proofs.AmongAll.{seen_among_all, names_among_all, links_among_all}
use Rattle.acpi_conditions.proofs.laws.known_is_seen_among_all.Goals as goal

pub returns-clause-seen : goal.returns-clause-seen
returns-clause-seen c = seen_among_all

pub returns-clause-names : goal.returns-clause-names
returns-clause-names c = names_among_all

pub returns-clause-links : goal.returns-clause-links
returns-clause-links c = links_among_all
