use Rattle.std.proofs.Common.{◌≡◌, ◌++◌}
use Rattle.std.specs.Vec.Iter.{into_iter_items}
use Rattle.acpi_pass.proofs.LinkPairs.{lent, lent_shared}
use Rattle.acpi_pass.proofs.link_map.LinkMap.pairs.Given as goal

abbrev pub invariant-loop-path : goal.invariant-loop-path
invariant-loop-path l = lent l.pairs.items ++ lent_shared (into_iter_items l.path-iterator) ≡ lent_shared (into_iter_items l.initial.path-iterator)
