use Rattle.std.proofs.Common.{◌≡◌, ◌++◌, ◌-◌, length, drop}
use Rattle.acpi_conditions.specs.Turns.{way_of}
use Rattle.acpi_conditions.specs.steps.Stops.{Grows, IsWayOf, pasts}
use Rattle.acpi_conditions.proofs.stops.way_past.Given as goal

abbrev pub invariant-loop-i : goal.invariant-loop-i
invariant-loop-i l = record {
  grown : Grows l.fn.ways l.ways;
  known : IsWayOf l.ways l.way;
  way : way_of l.ways l.way ++ pasts (drop l.i l.stops) ≡ way_of l.fn.ways l.fn.way ++ pasts (drop l.from l.stops);
}

abbrev pub decreases-loop-i : goal.decreases-loop-i
decreases-loop-i l = length l.stops - l.i
