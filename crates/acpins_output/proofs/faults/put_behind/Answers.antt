use Rattle.std.proofs.Common.{◌∷◌}
use Rattle.acpins_io.proofs.Telling.{tells_more}
use Rattle.acpins_output.proofs.PathTexts.{behind_more}
use Rattle.acpins_output.proofs.faults.put_behind.Goals as goal

pub loop-seg-preserved : goal.loop-seg-preserved
loop-seg-preserved g c =
    rw (behind_more (λ h. 46 ∷ h) c.args.segs.now c.loop-seg.seg-index c.seg-item.result c.loop-seg-test.true c.seg-item.is)
    (tells_more _ _ _ _ _ _ _ _ c.loop-seg.invariant c.put_dot_segment.ensures)
