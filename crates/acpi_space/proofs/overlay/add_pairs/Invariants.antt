use Rattle.std.proofs.Common.{◌≡◌}
use Rattle.std.specs.Vec.Iter.{into_iter_items}
use Rattle.acpi_space.specs.Overlays.{both}
use Rattle.acpi_space.specs.steps.Layers.{pairs_of}
use Rattle.acpi_space.proofs.overlay.add_pairs.Given as goal

abbrev pub invariant-loop-path : goal.invariant-loop-path
invariant-loop-path g l =
    both (pairs_of l.pairs.entries) (pairs_of (into_iter_items l.path-iterator)) ≡ both (pairs_of l.initial.pairs.entries) (pairs_of (into_iter_items l.initial.path-iterator))
