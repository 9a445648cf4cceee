use Rattle.std.proofs.Common.{◌≡◌}
use Rattle.std.specs.Vec.Iter.{into_iter_items}
use Rattle.acpi_body.specs.steps.Gathering.{with_misses}
use Rattle.acpi_body.proofs.gathered.add_missed.Given as goal

abbrev pub invariant-loop-path : goal.invariant-loop-path
invariant-loop-path l = with_misses l.awaited l.firm (into_iter_items l.path-iterator) ≡ with_misses l.awaited l.initial.firm (into_iter_items l.initial.path-iterator)
