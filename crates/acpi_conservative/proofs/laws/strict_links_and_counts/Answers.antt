use Rattle.acpi_conservative.proofs.StrictLinks.{strict_links, strict_certain}
use Rattle.acpi_conservative.proofs.TableCounts.{strict_counts}
use Rattle.acpi_conservative.proofs.laws.strict_links_and_counts.Goals as goal

pub returns-clause-links : goal.returns-clause-links
returns-clause-links c = strict_links

pub returns-clause-counts : goal.returns-clause-counts
returns-clause-counts c = strict_counts

pub returns-clause-certain : goal.returns-clause-certain
returns-clause-certain c = strict_certain
