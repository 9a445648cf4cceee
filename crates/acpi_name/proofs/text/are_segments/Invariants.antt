use Rattle.std.proofs.Common.{◌≡◌, length}
use Rattle.std.specs.Prelude.{is_some}
use Rattle.acpi_name.specs.steps.TextReading.{typed_segments, dotted_parts}
use Rattle.acpi_name.proofs.text.are_segments.Given as goal

abbrev pub invariant-loop-behind : goal.invariant-loop-behind
invariant-loop-behind l = is_some (typed_segments (dotted_parts l.rest)) ≡ is_some (typed_segments (dotted_parts l.text))

abbrev pub decreases-loop-behind : goal.decreases-loop-behind
decreases-loop-behind l = length l.rest
