use Rattle.std.proofs.Common.{◌≡◌, ◌++◌, map}
use Rattle.std.specs.Vec.Iter.{into_iter_items}
use Rattle.acpi_body.proofs.Listed.{pair_of}
use Rattle.acpi_body.proofs.misses.open_misses_of.Given as goal

abbrev pub invariant-loop-path : goal.invariant-loop-path
invariant-loop-path l = map pair_of l.list.items ++ map (λ e. (e.0, e.1.now)) (into_iter_items l.path-iterator) ≡ map (λ e. (e.0, e.1.now)) (into_iter_items l.initial.path-iterator)
