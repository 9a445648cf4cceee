use Rattle.acpi_ranges.proofs.RecordedParts.{parts_are_recorded, scopes_are_entered}
use Rattle.acpi_ranges.proofs.laws.parts_are_recorded.Goals as goal

pub returns-clause-parts : goal.returns-clause-parts
returns-clause-parts c = parts_are_recorded

pub returns-clause-scopes : goal.returns-clause-scopes
returns-clause-scopes c = scopes_are_entered
