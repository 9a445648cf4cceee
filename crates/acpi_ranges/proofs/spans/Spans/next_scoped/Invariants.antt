use Rattle.std.proofs.Common.{◌≡◌, length}
use Rattle.acpi_ranges.specs.SpanViews.{ranges_left}
use Rattle.acpi_ranges.specs.steps.Remainders.{entered_by}
use Rattle.acpi_ranges.proofs.spans.Spans.next_scoped.Given as goal

-- no range is gone past
abbrev pub invariant-loop-taken : goal.invariant-loop-taken
invariant-loop-taken l =
    ranges_left (entered_by l.places) l.self ≡ ranges_left (entered_by l.places) l.initial.self

abbrev pub decreases-loop-taken : goal.decreases-loop-taken
decreases-loop-taken l = length l.self.lists.items
