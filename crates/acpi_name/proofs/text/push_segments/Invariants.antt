use Rattle.std.proofs.Common.{◌≡◌, ◌++◌, length}
use Rattle.std.specs.Option.{option_map}
use Rattle.acpi_name.specs.steps.TextReading.{typed_segments, dotted_parts}
use Rattle.acpi_name.proofs.text.push_segments.Given as goal

abbrev pub invariant-loop-seg : goal.invariant-loop-seg
invariant-loop-seg l =
    option_map (λ gs. l.path ++ gs) (typed_segments (dotted_parts l.rest)) ≡ option_map (λ gs. l.initial.path ++ gs) (typed_segments (dotted_parts l.text))

abbrev pub decreases-loop-seg : goal.decreases-loop-seg
decreases-loop-seg l = length l.rest
