use Rattle.std.proofs.Common.{map}
use Rattle.std.specs.Vec.Iter.{into_iter_items}
use Rattle.acpi_declare.specs.Links.{links_at}
use Rattle.acpi_singles.proofs.JoinedValues.{Joining, InList}
use Rattle.acpi_singles.proofs.joining.add_links.Given as goal

abbrev pub invariant-loop-path : goal.invariant-loop-path
invariant-loop-path l =
    Joining (links_at l.initial.links) (links_at l.links) (InList (map (λ e. (e.0, e.1.now)) (into_iter_items l.initial.path-iterator))) (InList (map (λ e. (e.0, e.1.now)) (into_iter_items l.path-iterator)))
