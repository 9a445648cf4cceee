use Rattle.std.proofs.Common.{◌≤◌, ◌<◌, ◌∙◌, length, nat_cmp, min, sym, ap, arith}
use Rattle.acpi_name_checks.proofs.NameOrders.{goes_on, differs, ends}
use Rattle.acpi_name_checks.proofs.name_set.compare_segs.Goals as goal

pub returns-then-is_ne : goal.returns-then-is_ne
returns-then-is_ne c =
    let in_one : c.loop-i.i < length c.args.one.segs.now = omega arith in
    let in_other : c.loop-i.i < length c.args.other.segs.now = omega arith in
    differs c.args.one.segs.now c.args.other.segs.now c.loop-i.i c.seg.result c.seg-in-loop-i.result c.cmp-order.result in_one in_other
    c.seg.ensures c.seg-in-loop-i.ensures c.cmp-order.ensures (sym c.is_ne.ensures ∙ c.if-is_ne.true)
    ∙ c.loop-i.invariant

pub returns : goal.returns
returns c =
    let in_one : c.loop-i.i ≤ length c.args.one.segs.now = omega arith in
    let in_other : c.loop-i.i ≤ length c.args.other.segs.now = omega arith in
    let end : min (length c.args.one.segs.now) (length c.args.other.segs.now) ≤ c.loop-i.i = omega arith in
    c.cmp.ensures
    ∙ ap (λ n. nat_cmp n c.len-4.result) c.len-3.ensures.count
    ∙ ap (nat_cmp (length c.args.one.segs.now)) c.len-4.ensures.count
    ∙ ends c.args.one.segs.now c.args.other.segs.now c.loop-i.i in_one in_other end
    ∙ c.loop-i.invariant

pub loop-i-preserved : goal.loop-i-preserved
loop-i-preserved c =
    let in_one : c.loop-i.i < length c.args.one.segs.now = omega arith in
    let in_other : c.loop-i.i < length c.args.other.segs.now = omega arith in
    goes_on c.args.one.segs.now c.args.other.segs.now c.loop-i.i c.seg.result c.seg-in-loop-i.result c.cmp-order.result in_one in_other
    c.seg.ensures c.seg-in-loop-i.ensures c.cmp-order.ensures (sym c.is_ne.ensures ∙ c.if-is_ne.false)
    ∙ c.loop-i.invariant
