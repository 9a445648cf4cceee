use Rattle.acpi_order.proofs.Verdicts.{refused_is_not_alone, least_by_pairs}
use Rattle.acpi_order.specs.Verdicts.{IsSame, IsMissed}
use Rattle.acpi_order.proofs.laws.verdict_is_found_in_order.Goals as goal

pub returns-clause-refused : goal.returns-clause-refused
returns-clause-refused c = refused_is_not_alone

pub returns-clause-same : goal.returns-clause-same
returns-clause-same c depth dsdt ssdts = least_by_pairs (IsSame depth dsdt ssdts)

pub returns-clause-missed : goal.returns-clause-missed
returns-clause-missed c depth dsdt ssdts = least_by_pairs (IsMissed depth dsdt ssdts)
