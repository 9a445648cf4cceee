use Rattle.std.proofs.Common.{◌≡◌, []}
use Rattle.std.specs.Vec.Iter.{into_iter_items}
use Rattle.acpi_needs.specs.Needs.{with_names}
use Rattle.acpi_needs.proofs.needs.once.Given as goal

abbrev pub invariant-each : goal.invariant-each
invariant-each l = with_names l.kept.items (into_iter_items l.name-iterator) ≡ with_names [] (into_iter_items l.initial.name-iterator)
