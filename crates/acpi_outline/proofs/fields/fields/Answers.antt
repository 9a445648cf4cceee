use Rattle.std.proofs.Common.{◌≡◌, ◌<◌, length, arith}
use Rattle.acpi_tree.specs.View.{field_view}
use Rattle.acpi_outline.specs.View.{fixed_view, placed_fields}
use Rattle.acpi_outline.proofs.Elements.{fields_go_on, fields_end_lost, fields_end_all, fields_state_lost}
use Rattle.acpi_outline.proofs.fields.fields.Goals as goal

pub each-preserved : goal.each-preserved
each-preserved g c =
    let some : 0 < length c.each.code.bytes = grind arith in
    let h = rw c.in-Ok.is at c.in_ok-element.ensures in
    rw (c.in_ok-put_field-in-Ok.ensures, c.place-place.ensures, c.bits_behind-behind.ensures)
    (fields_go_on g.K.Known.rules (fixed_view c.args.fixed.now) c.args.known.now c.args.code.now c.each.known c.each.code c.pass_field.new.self c.next_field.new.code c.each.offset (placed_fields c.each.read.items) (field_view c.in-Ok.element) some h.0
    (rw c.place-place.ensures at c.in_ok-pass_field-in-Ok.ensures) h.1 c.each.invariant)

pub returns-in-Err-clause-exact : goal.returns-in-Err-clause-exact
returns-in-Err-clause-exact g c =
    let some : 0 < length c.each.code.bytes = grind arith in
    let h = rw c.in-Err.is at c.in_ok-element.ensures in
    rw (h.2, c.place-place.ensures)
    (fields_end_lost g.K.Known.rules (fixed_view c.args.fixed.now) c.args.known.now c.args.code.now c.each.known c.each.code c.each.offset (placed_fields c.each.read.items) h.0 some h.1 c.each.invariant)

pub returns-in-Err-clause-state : goal.returns-in-Err-clause-state
returns-in-Err-clause-state g c =
    fields_state_lost g.K.Known.rules (fixed_view c.args.fixed.now) c.args.known.now c.args.code.now c.each.known c.each.code c.each.offset (placed_fields c.each.read.items) c.place-place.result c.in-Err.fault c.each.invariant

pub returns-clause-exact : goal.returns-clause-exact
returns-clause-exact g c =
    let none : length c.each.code.bytes ≡ 0 = grind arith in
    fields_end_all g.K.Known.rules (fixed_view c.args.fixed.now) c.args.known.now c.args.code.now c.each.known c.each.code c.each.offset (placed_fields c.each.read.items) none c.each.invariant
