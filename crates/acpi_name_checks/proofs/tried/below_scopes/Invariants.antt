use Rattle.std.proofs.Common.{◌≡◌, ◌++◌, length}
use Rattle.acpi_name_checks.specs.steps.Below.{below}
use Rattle.acpi_name_checks.proofs.tried.below_scopes.Given as goal

abbrev pub invariant-loop-path : goal.invariant-loop-path
invariant-loop-path l = l.paths.items ++ below l.path l.seg ≡ below l.scope l.seg

abbrev pub decreases-loop-path : goal.decreases-loop-path
decreases-loop-path l = length l.path
