use Rattle.std.proofs.Common.{◌≡◌, ◌++◌, map}
use Rattle.std.specs.Vec.Iter.{into_iter_items}
use Rattle.acpi_verdict.proofs.PathSets.{paths_in}
use Rattle.acpi_singles.proofs.paths.paths_of.Given as goal

abbrev pub invariant-loop-path : goal.invariant-loop-path
invariant-loop-path g l =
    l.list.items ++ paths_in (map (λ e. (e.0, e.1.now)) (into_iter_items l.path-iterator)) ≡ paths_in (map (λ e. (e.0, e.1.now)) (into_iter_items l.initial.path-iterator))
