use Rattle.std.proofs.Common.{◌≡◌, ◌++◌, List, map}
use Rattle.acpi_name.specs.Names.{Segment}
use Rattle.std.specs.Vec.Iter.{into_iter_items}
use Rattle.acpi_body.proofs.misses.paths_of.Given as goal

abbrev pub invariant-loop-path : goal.invariant-loop-path
invariant-loop-path l = l.list.items ++ map (λ (e : List Segment × Unit {0}). e.0) (map (λ e. (e.0, e.1.now)) (into_iter_items l.path-iterator))
    ≡ map (λ (e : List Segment × Unit {0}). e.0) (map (λ e. (e.0, e.1.now)) (into_iter_items l.initial.path-iterator))
