use Rattle.std.proofs.Common.{◌≡◌}
use Rattle.acpi_space.specs.steps.Tree.{IsTree}
use Rattle.acpi_space.specs.steps.Walk.{left_of, places_of}
use Rattle.acpi_space.proofs.Visits.{visits_of}
use Rattle.acpi_space.proofs.walk.PairWalk.next.Given as goal

abbrev pub invariant-loop-number : goal.invariant-loop-number
invariant-loop-number g l = IsTree l.self.nodes.now × (left_of l.fn.self ≡ left_of l.self)

abbrev pub decreases-loop-number : goal.decreases-loop-number
decreases-loop-number g l = visits_of l.self.nodes.now (places_of l.self)
