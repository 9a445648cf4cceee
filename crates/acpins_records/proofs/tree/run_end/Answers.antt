use Rattle.std.proofs.Common.{◌<◌, length, arith, subst, false}
use Rattle.std.specs.Prelude.{IsTrue}
use Rattle.acpins_records.proofs.Prefixes.{there}
use Rattle.acpins_records.proofs.Runs.{none_read, run_goes_on, run_ends_at}
use Rattle.acpins_records.proofs.tree.run_end.Goals as goal

pub loop-next-preserved : goal.loop-next-preserved
loop-next-preserved c =
    let this = there c.args.paths.now c.args.k c.requires.within in
    let within : c.loop-next.next < length c.args.paths.now = omega (arith, c.loop-next-test.true, c.len.ensures) in
    let next = there c.args.paths.now c.loop-next.next within in
    run_goes_on c.args.paths.now c.args.k c.loop-next.next _ this.0 next.0 c.loop-next.invariant this.1 next.1
    ((c.stands_below.ensures this.0 next.0 this.1 next.1).0 c.if-stands_below.true)
    (c.requires.later c.loop-next.next c.loop-next.invariant.within.0 within)

pub returns-else-stands_below : goal.returns-else-stands_below
returns-else-stands_below c =
    let this = there c.args.paths.now c.args.k c.requires.within in
    run_ends_at c.args.paths.now c.args.k c.loop-next.next this.0 c.loop-next.invariant this.1
    (λ x at is.
    let yes : IsTrue c.stands_below.result = (c.stands_below.ensures this.0 x this.1 at).1 is in
    let bad : IsTrue false = subst IsTrue c.if-stands_below.false yes in
    absurd (cc))

pub returns-after-loop-next : goal.returns-after-loop-next
returns-after-loop-next c =
    let this = there c.args.paths.now c.args.k c.requires.within in
    run_ends_at c.args.paths.now c.args.k c.loop-next.next this.0 c.loop-next.invariant this.1 (λ x at is. none_read c.args.paths.now c.loop-next.next x (omega (arith, c.loop-next-test.false, c.len.ensures)) at)
