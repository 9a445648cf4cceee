use Rattle.std.proofs.Common.{length}
use Rattle.acpi_ranges.specs.SpanViews.{ranges_left}
use Rattle.acpi_ranges.specs.steps.Indexes.{index_entered}
use Rattle.acpins_survey_uses.proofs.scopes.put_scopes.Given as goal

abbrev pub decreases-loop-ranges : goal.decreases-loop-ranges
decreases-loop-ranges l = length (ranges_left (index_entered l.index l.number) l.ranges)
