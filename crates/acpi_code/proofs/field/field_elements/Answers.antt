use Rattle.std.proofs.Common.{◌≡◌, ◌<◌, ◌++◌, ◌∷◌, [], length, arith}
use Rattle.std.proofs.lemmas.Result.{err_from_is_err_and}
use Rattle.std.proofs.lemmas.List.{map_push}
use Rattle.acpi_code.proofs.Lists.{turned, all_turned}
use Rattle.acpi_tree.specs.View.{field_view, fields_view}
use Rattle.acpi_code.specs.steps.Fields.{field_at}
use Rattle.acpi_code.proofs.Fields.{stopped_there}
use Rattle.acpi_code.proofs.field.field_elements.Goals as goal

pub returns-in_err-field_element : goal.returns-in_err-field_element
returns-in_err-field_element c =
    let p = err_from_is_err_and c.from_residual.result c.from_residual.ensures.1 in
    let some : 0 < length c.each.code.bytes = grind arith in
    rw (p.1, p.2) (stopped_there field_at c.args.code.now c.each.code _ _ some c.in_err-field_element.ensures c.each.invariant)

pub each-preserved : goal.each-preserved
each-preserved c =
    let n = c.in_ok-field_element.field-0 in
    let some : 0 < length c.each.code.bytes = grind arith in
    let e : fields_view c.push.new.self.items ≡ fields_view c.each.found.items ++ field_view n ∷ [] = rw c.in_ok-push.ensures.items (map_push _ c.each.found.items n) in
    rw e (turned field_at c.args.code.now c.each.code c.field_element.new.code _ _ some c.in_ok-field_element.ensures.0 c.in_ok-field_element.ensures.1 c.each.invariant)

pub returns : goal.returns
returns c =
    let none : length c.each.code.bytes ≡ 0 = grind arith in
    all_turned field_at c.args.code.now c.each.code _ none c.each.invariant
