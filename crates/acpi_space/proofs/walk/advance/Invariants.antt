use Rattle.std.proofs.Common.{◌≡◌, length, reverse}
use Rattle.acpi_space.specs.steps.Walk.{ahead}
use Rattle.acpi_space.proofs.walk.advance.Given as goal

abbrev pub invariant-loop-step : goal.invariant-loop-step
invariant-loop-step l = ahead l.path (reverse l.steps.items) ≡ ahead l.fn.path (reverse l.fn.steps.items)

abbrev pub decreases-loop-step : goal.decreases-loop-step
decreases-loop-step l = length l.steps.items
