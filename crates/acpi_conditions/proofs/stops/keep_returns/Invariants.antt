use Rattle.std.proofs.Common.{◌≡◌, ◌++◌, ◌-◌, length, drop}
use Rattle.acpi_conditions.specs.steps.Stops.{returns_from}
use Rattle.acpi_conditions.proofs.stops.keep_returns.Given as goal

abbrev pub invariant-loop-i : goal.invariant-loop-i
invariant-loop-i l = l.kept.items ++ returns_from (l.from - l.i) (drop l.i l.stops.items) ≡ returns_from l.from l.stops.items

abbrev pub decreases-loop-i : goal.decreases-loop-i
decreases-loop-i l = length l.stops.items - l.i
