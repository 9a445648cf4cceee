use Rattle.std.proofs.Common.{◌∷◌, take}
use Rattle.std.specs.List.{flat_map}
use Rattle.acpins_io.specs.PartsWritten.{WritesUntilFailure}
use Rattle.acpins_output.proofs.faults.put_behind.Given as goal

abbrev pub invariant-loop-seg : goal.invariant-loop-seg
invariant-loop-seg g l = WritesUntilFailure (flat_map (λ h. 46 ∷ h) (take l.seg-index l.segs)) (g.P.PartWriter.failed l.fn.parts)
    (g.P.PartWriter.contents l.fn.err) (g.P.PartWriter.failed l.parts) (g.P.PartWriter.contents l.err)
