use Rattle.std.proofs.Common.{◌+◌}
use Rattle.acpins_io.proofs.Telling.{begun, kept, piece_fits, piece_more}
use Rattle.acpins_io.proofs.streams.write_bytes.Goals as goal
use Rattle.acpins_io.proofs.streams.write_bytes.Goals.{in-Ok, in-Err}

pub returns-in-Ok-eq0-clause-begins : goal.returns-in-Ok-eq0-clause-begins
returns-in-Ok-eq0-clause-begins g c =
    begun _ _ c.args.bytes.now (c.loop.written + c.in-Ok-eq0.field-0)
    (piece_more _ _ _ c.args.bytes.now c.loop.written c.in-Ok-eq0.field-0 c.loop.invariant.1 (rw c.in-Ok-eq0.is at c.write.ensures.bytes))

pub returns-in-Err-2-clause-begins : goal.returns-in-Err-2-clause-begins
returns-in-Err-2-clause-begins g c = begun _ _ c.args.bytes.now c.loop.written (kept _ _ _ _ c.loop.invariant.1 c.in-Err.ensures.bytes)

pub loop-preserved : goal.loop-preserved
loop-preserved g c = elim c.match-write.branch [
  | in-Ok w ↦
      let part = c.args.bytes.now in
      rw w.written-is
      (piece_fits part c.loop.written w.in-Ok.count c.loop.invariant.0 w.in-Ok.ensures.bound, piece_more _ _ _ part c.loop.written w.in-Ok.count c.loop.invariant.1 w.in-Ok.ensures.bytes)
  | in-Err w ↦ rw w.written-is (c.loop.invariant.0, kept _ _ _ _ c.loop.invariant.1 w.in-Err.ensures.bytes)
]

pub returns-clause-begins : goal.returns-clause-begins
returns-clause-begins g c = begun _ _ c.args.bytes.now c.loop.written c.loop.invariant.1
