use Rattle.acpi_order.proofs.Stays.{links_stay, body_stays}
use Rattle.acpi_order.proofs.laws.untouched_stays.Goals as goal

pub returns-clause-links : goal.returns-clause-links
returns-clause-links c = links_stay

pub returns-clause-bodies : goal.returns-clause-bodies
returns-clause-bodies c = body_stays
