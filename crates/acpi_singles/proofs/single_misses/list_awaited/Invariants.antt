use Rattle.std.proofs.Common.{◌≡◌, ◌++◌, map}
use Rattle.std.specs.Vec.Iter.{into_iter_items}
use Rattle.acpi_singles.specs.SingleView.{awaited_view}
use Rattle.acpi_singles.specs.steps.SingleMisses.{tagged}
use Rattle.acpi_singles.proofs.single_misses.list_awaited.Given as goal

abbrev pub invariant-loop-path : goal.invariant-loop-path
invariant-loop-path l =
    map awaited_view l.list.items ++ tagged l.table (map (λ e. (e.0, e.1.now)) (into_iter_items l.path-iterator))
    ≡ map awaited_view l.initial.list.items ++ tagged l.table (map (λ e. (e.0, e.1.now)) (into_iter_items l.initial.path-iterator))
