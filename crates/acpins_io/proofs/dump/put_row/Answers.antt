use Rattle.std.proofs.Common.{◌-◌, ◌+◌, sym, arith}
use Rattle.acpins_io.proofs.Dumped.{no_more, none_there, row_ends, row_more}
use Rattle.acpins_io.proofs.Telling.{rest_is}
use Rattle.acpins_io.proofs.dump.put_row.Goals as goal

pub returns-in_default : goal.returns-in_default
returns-in_default c =
    row_ends c.loop-i.bytes.items (16 - c.loop-i._i) c.loop-i.rest.now _ (none_there (16 - c.loop-i._i) c.loop-i.rest.now (sym c.in_default.ensures.byte)) c.loop-i.invariant

pub loop-i-preserved : goal.loop-i-preserved
loop-i-preserved c =
    row_more c.loop-i.bytes.items _ c.in-Some.byte (16 - (c.loop-i._i + 1)) (16 - c.loop-i._i) c.loop-i.rest.now _ _ c.in_ok-push.ensures.items (rest_is c.loop-i.rest.now 3) (omega arith)
    (sym c.in-Some.ensures.byte) c.loop-i.invariant

pub returns : goal.returns
returns c =
    row_ends c.loop-i.bytes.items (16 - c.loop-i._i) c.loop-i.rest.now _ (no_more (16 - c.loop-i._i) c.loop-i.rest.now (omega arith)) c.loop-i.invariant
