use Rattle.std.proofs.Common.{◌<◌, ◌∙◌, subst, sym}
use Rattle.std.specs.Prelude.{slice_index}
use Rattle.std.proofs.Math.ListN.{length-set}
use Rattle.std.proofs.lemmas.List.{get_or_read}
use Rattle.acpins_records.proofs.Placed.{placed_next}
use Rattle.acpins_records.proofs.building.set_places.Goals as goal

pub loop-k-preserved : goal.loop-k-preserved
loop-k-preserved c = record {
  count = length-set c.loop-k.objects _ _ ∙ c.loop-k.invariant.count;
  so_far = placed_next (slice_index c.args.tree.now.parents.items) (slice_index c.args.tree.now.ends.items) c.args.objects.now c.loop-k.objects c.loop-k.k _ _
      (record {
        kind = _;
        line = _;
        line_length = _;
        path_length = _;
        target = _;
        targets = _;
        numbers = _;
        parent = 0;
        below = 0;
        part = _;
        code_table = _;
        code_place = _;
        code_length = _;
      })
      c.set_place.new.object
      c.loop-k-test.true c.loop-k.invariant.so_far c.set_place.ensures
      (get_or_read c.args.tree.now.parents.items c.loop-k.k _ (subst (λ n. c.loop-k.k < n) (sym c.requires.parents) c.loop-k-test.true) c.index.ensures 0)
      (get_or_read c.args.tree.now.ends.items c.loop-k.k _ (subst (λ n. c.loop-k.k < n) (sym c.requires.ends) c.loop-k-test.true) c.index-in-loop-k.ensures 0);
}
