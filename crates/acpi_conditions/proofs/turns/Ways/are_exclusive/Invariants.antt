use Rattle.std.proofs.Common.{map}
use Rattle.acpi_conditions.specs.Turns.{turn_of, way_of}
use Rattle.acpi_conditions.proofs.WayTests.{IsSoFarExclusive}
use Rattle.acpi_conditions.proofs.turns.Ways.are_exclusive.Given as goal

abbrev pub invariant-loop-last : goal.invariant-loop-last
invariant-loop-last l = IsSoFarExclusive (way_of l.self l.fn.way) (way_of l.self l.way) (map turn_of l.outside) l.exclusive

abbrev pub decreases-loop-last : goal.decreases-loop-last
decreases-loop-last l = l.way.number
