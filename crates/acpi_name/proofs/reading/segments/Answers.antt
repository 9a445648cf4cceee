use Rattle.std.proofs.Common.{◌≡◌, ◌*◌, ◌/◌, ◌∙◌, refl, arith, length, take}
use Rattle.std.specs.Simd.{first_chunks}
use Rattle.std.proofs.lemmas.Result.{err_from_is_err_and}
use Rattle.acpi_name.proofs.SegmentLoop.{starts, goes_on, ends, is_done}
use Rattle.acpi_name.proofs.reading.segments.Goals as goal

pub loop-init : goal.loop-init
loop-init c = starts c.args.count c.args.bytes.now

pub returns-in_err-rest-clause-exact : goal.returns-in_err-rest-clause-exact
returns-in_err-rest-clause-exact c =
    let p = err_from_is_err_and c.from_residual.result c.from_residual.ensures.1 in
    rw (p.1, p.2) (ends c.args.count c.loop.counter c.args.bytes.now c.loop.rest.now _ c.loop-test.true c.in_err-rest.ensures.exact c.loop.invariant)

pub loop-preserved : goal.loop-preserved
loop-preserved c =
    let e = c.in_ok-rest.ensures in
    goes_on c.args.count c.loop.counter c.args.bytes.now c.loop.rest.now _ c.loop-test.true e.exact e.four e.back c.loop.invariant

pub returns-clause-exact : goal.returns-clause-exact
returns-clause-exact c =
    let count : length c.split_at.result.0.now / 4 ≡ c.args.count = omega (arith, c.split_at.ensures.front_len, c.loop.invariant.len) in
    let segs : c.as_chunks.result.0.now ≡ first_chunks 4 c.args.count (take (4 * c.args.count) c.args.bytes.now) = c.as_chunks.ensures.front ∙ rw (count, c.split_at.ensures.front) refl in
    rw (segs, c.split_at.ensures.back) (is_done c.args.count c.loop.counter c.args.bytes.now c.loop.rest.now (omega arith) c.loop.invariant)
