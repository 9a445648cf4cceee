use Rattle.std.proofs.Common.{length}
use Rattle.acpi_space.specs.steps.Walk.{left_of}
use Rattle.acpi_space.proofs.Visits.{Showing}
use Rattle.acpi_space.proofs.tree_space.TreeSpaceSpace.visit_pairs.Given as goal

abbrev pub invariant-loop-walk : goal.invariant-loop-walk
invariant-loop-walk g l = Showing g.T.Visitor.was_shown l.initial.walk l.walk l.initial.visitor l.visitor

abbrev pub decreases-loop-walk : goal.decreases-loop-walk
decreases-loop-walk g l = length (left_of l.walk)
