use Rattle.std.proofs.Common.{◌≡◌, ◌++◌, map, reverse}
use Rattle.acpi_conditions.specs.Turns.{turn_of, way_of}
use Rattle.acpi_conditions.proofs.turns.Ways.turns.Given as goal

abbrev pub invariant-loop-last : goal.invariant-loop-last
invariant-loop-last l = way_of l.self l.fn.way ≡ way_of l.self l.way ++ reverse (map turn_of l.turns.items)

abbrev pub decreases-loop-last : goal.decreases-loop-last
decreases-loop-last l = l.way.number
