use Rattle.std.proofs.Common.{◌≡◌, None}
use Rattle.std.specs.Vec.Iter.{into_iter_items}
use Rattle.acpi_body.specs.steps.Gathering.{with_misses}
use Rattle.acpi_verdict.proofs.paths.add_paths.Given as goal

abbrev pub invariant-loop-path : goal.invariant-loop-path
invariant-loop-path l = with_misses None l.paths (into_iter_items l.path-iterator) ≡ with_misses None l.initial.paths (into_iter_items l.initial.path-iterator)
