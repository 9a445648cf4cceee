use Rattle.std.proofs.Common.{length}
use Rattle.acpi_conditions.proofs.Tries.{IsOnTheWay}
use Rattle.acpi_conditions.proofs.searches.below_scopes.Given as goal

abbrev pub invariant-loop-path : goal.invariant-loop-path
invariant-loop-path g l = IsOnTheWay (g.S.Statuses.known l.known) l.seg l.scope l.path l.paths.items

abbrev pub decreases-loop-path : goal.decreases-loop-path
decreases-loop-path g l = length l.path
