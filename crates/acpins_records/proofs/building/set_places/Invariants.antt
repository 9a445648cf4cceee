use Rattle.std.proofs.Common.{◌≡◌, ◌++◌, length, take, drop}
use Rattle.std.specs.Prelude.{slice_index}
use Rattle.acpins_records.specs.steps.Adding.{placed_from}
use Rattle.acpins_records.proofs.building.set_places.Given as goal

abbrev pub invariant-loop-k : goal.invariant-loop-k
invariant-loop-k l = record {
  count : length l.objects ≡ length l.initial.objects;
  so_far : l.objects ≡ placed_from 0 (slice_index l.tree.parents.items) (slice_index l.tree.ends.items) (take l.k l.initial.objects) ++ drop l.k l.initial.objects;
}
