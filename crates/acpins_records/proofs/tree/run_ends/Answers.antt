use Rattle.std.proofs.Common.{length, arith, ◌∙◌}
use Rattle.std.proofs.Math.ListN.{length-set}
use Rattle.acpins_records.specs.steps.Runs.{RunsTo}
use Rattle.acpins_records.proofs.Runs.{later_more}
use Rattle.acpins_records.proofs.tree.run_ends.Goals as goal

pub loop-k-2-preserved : goal.loop-k-2-preserved
loop-k-2-preserved c = record {
  count = length-set c.loop-k-2.ends.items _ _ ∙ c.loop-k-2.invariant.count;
  later = later_more (λ j n. RunsTo c.args.paths.now j n) c.loop-k-2.ends.items c.loop-k-2.k c.run_end.result (length c.args.paths.now) c.loop-k-2-test.true (omega (arith, c.loop-k-2.auto.k, c.len-k.ensures)) c.loop-k-2.invariant.count
      c.loop-k-2.invariant.later c.run_end.ensures;
}
