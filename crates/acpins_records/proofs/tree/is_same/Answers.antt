use Rattle.std.specs.Cmp.Lexicographic.{pointwise_decides, bytes_decides}
use Rattle.acpins_records.proofs.tree.is_same.Goals as goal

pub returns : goal.returns
returns c = rw c.eq.ensures (pointwise_decides bytes_decides c.args.segs.now c.args.others.now)
