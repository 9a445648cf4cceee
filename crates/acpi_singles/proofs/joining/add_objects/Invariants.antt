use Rattle.std.proofs.Common.{map}
use Rattle.std.specs.Vec.Iter.{into_iter_items}
use Rattle.acpi_tree.specs.Objects.{object_view}
use Rattle.acpi_declare.specs.Namespace.{namespace_of}
use Rattle.acpi_singles.proofs.JoinedValues.{Joining, InList, mapped}
use Rattle.acpi_singles.proofs.joining.add_objects.Given as goal

abbrev pub invariant-loop-path : goal.invariant-loop-path
invariant-loop-path g l =
    Joining (namespace_of (g.S.Space.contents l.initial.objects)) (namespace_of (g.S.Space.contents l.objects))
    (InList (mapped object_view (map (λ e. (e.0, e.1.now)) (into_iter_items l.initial.path-iterator)))) (InList (mapped object_view (map (λ e. (e.0, e.1.now)) (into_iter_items l.path-iterator))))
