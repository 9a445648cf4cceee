use Rattle.std.proofs.Common.{◌≡◌, length, arith}
use Rattle.acpi_places.proofs.Walked.{gone_on, opened, gone_in, all_done}
use Rattle.acpi_places.proofs.items.+add_places.Goals as goal

pub each-preserved-in-Continue-branch-3 : goal.each-preserved-in-Continue-branch-3
each-preserved-in-Continue-branch-3 t c = λ is h.
    let k = c.each.invariant is h in
    let goes = c.in_ok-inner.ensures.next k.others k.left in
    let found = c.in_ok-inner.field-0 in
    let o = opened c.args.table c.args.level c.args.code is c.each.left c.next.new.code c.args.places.now.items c.each.places.items c.next.new.places.items k found goes c.in-Some.inner c.in-Some.is in
    gone_in c.args.table c.args.level c.args.code is c.each.left c.next.new.code c.args.places.now.items c.each.places.items c.next.new.places.items k found goes c.in-Some.inner c.in-Some.is
    c.add_places.new.places.items (c.in_ok-add_places.ensures o.0.inside o.0.within)

pub each-preserved : goal.each-preserved
each-preserved t c = λ is h.
    let k = c.each.invariant is h in
    gone_on c.args.table c.args.level c.args.code is c.each.left c.next.new.code c.args.places.now.items c.each.places.items c.next.new.places.items k c.in_ok-inner.field-0
    (c.in_ok-inner.ensures.next k.others k.left) c.in_default.is

pub returns : goal.returns
returns t c = λ is h.
    let none : length c.each.left.bytes ≡ 0 = grind arith in
    all_done c.args.table c.args.level c.args.code is c.each.left c.args.places.now.items c.each.places.items (c.each.invariant is h) none
