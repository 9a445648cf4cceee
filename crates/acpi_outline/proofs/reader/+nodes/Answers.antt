use Rattle.std.proofs.Common.{◌≡◌, ◌<◌, length, ◌∙◌, arith}
use Rattle.acpi_outline.specs.View.{fixed_view, nodes_view, placed_views}
use Rattle.acpi_outline.proofs.Going.{goes_on, entered_goes_on, goes_lost, goes_out, state_lost}
use Rattle.acpi_outline.proofs.reader.+nodes.Goals as goal

pub each-preserved-in-On : goal.each-preserved-in-On
each-preserved-in-On g t c =
    let some : 0 < length c.each.code.bytes = grind arith in
    let h = rw c.in-On.is at c.in_ok-go_on.ensures in
    rw h.3 (goes_on g.K.Known.rules c.args.level c.args.known.now c.args.code.now c.each.known c.each.code c.go_on.new.known c.go_on.new.code (placed_views c.each.read.items) h.0 some h.1 h.2 h.4 c.each.invariant)

pub each-preserved : goal.each-preserved
each-preserved g t c =
    let some : 0 < length c.each.code.bytes = grind arith in
    let h = rw c.in-In.is at c.in_ok-go_on.ensures in
    rw (c.in_ok-put_holding-in-In.ensures, h.1, c.place-place.ensures)
    (entered_goes_on g.K.Known.rules c.args.level c.args.known.now c.args.code.now c.each.known c.each.code c.go_on.new.known c.nodes.new.known c.leave.new.self c.go_on.new.code (placed_views c.each.read.items)
    (fixed_view c.in-In.fixed) c.in-In.inner (nodes_view c.in_ok-held-in-In.held) some h.0.0 h.0.1 c.in_ok-held-in-In.ensures.exact c.in_ok-held-in-In.ensures.state c.in_ok-leave-in-In.ensures h.0.3 c.each.invariant)

pub returns-in-Lost-clause-exact : goal.returns-in-Lost-clause-exact
returns-in-Lost-clause-exact g t c =
    let some : 0 < length c.each.code.bytes = grind arith in
    let h = rw c.in-Lost.is at c.in_ok-go_on.ensures in
    rw (c.all_read.ensures, h.1, c.place-place.ensures)
    (goes_lost g.K.Known.rules c.args.level c.args.known.now c.args.code.now c.each.known c.each.code (placed_views c.each.read.items) c.in-Lost.fault some h.0.0 c.each.invariant)

pub returns-in-Lost-clause-state : goal.returns-in-Lost-clause-state
returns-in-Lost-clause-state g t c =
    let h = rw c.in-Lost.is at c.in_ok-go_on.ensures in
    rw (c.all_read.ensures, h.1)
    (h.0.1 ∙ state_lost g.K.Known.rules c.args.level c.args.known.now c.args.code.now c.each.known c.each.code (placed_views c.each.read.items) c.place-place.result c.in-Lost.fault c.each.invariant)

pub returns-clause-exact : goal.returns-clause-exact
returns-clause-exact g t c =
    let none : length c.each.code.bytes ≡ 0 = grind arith in
    rw c.all_read-2.ensures (goes_out g.K.Known.rules c.args.level c.args.known.now c.args.code.now c.each.known c.each.code (placed_views c.each.read.items) none c.each.invariant)
