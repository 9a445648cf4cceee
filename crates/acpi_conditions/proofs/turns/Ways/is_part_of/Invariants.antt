use Rattle.std.proofs.Common.{◌≡◌, map}
use Rattle.acpi_conditions.specs.Links.{is_part_of}
use Rattle.acpi_conditions.specs.Turns.{turn_of, way_of}
use Rattle.acpi_conditions.proofs.turns.Ways.is_part_of.Given as goal

abbrev pub invariant-loop-last : goal.invariant-loop-last
invariant-loop-last l = is_part_of (way_of l.self l.fn.way) (map turn_of l.turns) ≡ is_part_of (way_of l.self l.way) (map turn_of l.turns)

abbrev pub decreases-loop-last : goal.decreases-loop-last
decreases-loop-last l = l.way.number
