use Rattle.std.proofs.Common.{◌≡◌, drop}
use Rattle.acpi_space.specs.steps.Trail.{fork_from}
use Rattle.acpi_space.proofs.trail.follow.Given as goal

abbrev pub invariant-loop-depth : goal.invariant-loop-depth
invariant-loop-depth l = fork_from l.depth l.number (drop l.depth l.trail) (drop l.depth l.path) ≡ fork_from 0 0 l.trail l.path
