use Rattle.std.proofs.Common.{length}
use Rattle.acpi_ranges.specs.SpanViews.{ranges_left}
use Rattle.acpi_ranges.specs.steps.Indexes.{index_entered}
use Rattle.acpi_check_machine.proofs.module_level.module_terms.Given as goal

abbrev pub decreases-loop-spans : goal.decreases-loop-spans
decreases-loop-spans l = length (ranges_left (index_entered l.index l.table) l.spans)
