use Rattle.acpins_records.proofs.Runs.{begins_with, front_of_below}
use Rattle.std.proofs.Common.{refl}
use Rattle.acpins_records.proofs.tree.is_below.Goals as goal

pub returns-then-segs-above : goal.returns-then-segs-above
returns-then-segs-above c = (
  λ yes. begins_with c.args.above.now c.args.segs.now _ refl c.if-segs-above.true (c.is_same.ensures.0 yes),
  λ is. c.is_same.ensures.1 (front_of_below c.args.above.now c.args.segs.now is),
)
