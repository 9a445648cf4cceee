use Rattle.std.proofs.Common.{◌≡◌, ◌++◌, length}
use Rattle.acpi_space.specs.steps.Tree.{IsTree}
use Rattle.acpi_space.specs.steps.Walk.{left_of}
use Rattle.acpi_space.proofs.Visits.{shown}
use Rattle.acpi_space.proofs.tree_space.TreeSpaceSpace.pairs.Given as goal

abbrev pub invariant-loop-walk : goal.invariant-loop-walk
invariant-loop-walk g l = IsTree l.walk.nodes.now × (shown l.pairs.items ++ left_of l.walk ≡ left_of l.initial.walk)

abbrev pub decreases-loop-walk : goal.decreases-loop-walk
decreases-loop-walk g l = length (left_of l.walk)
