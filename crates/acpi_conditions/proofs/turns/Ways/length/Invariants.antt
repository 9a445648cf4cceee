use Rattle.std.proofs.Common.{◌≡◌, ◌+◌, ◌≤◌, length}
use Rattle.acpi_conditions.specs.Turns.{way_of}
use Rattle.acpi_conditions.proofs.turns.Ways.length.Given as goal

abbrev pub invariant-loop-last : goal.invariant-loop-last
invariant-loop-last l = (length (way_of l.self l.fn.way) ≡ l.count + length (way_of l.self l.way)) × (l.count + l.way.number ≤ l.fn.way.number)

abbrev pub decreases-loop-last : goal.decreases-loop-last
decreases-loop-last l = l.way.number
