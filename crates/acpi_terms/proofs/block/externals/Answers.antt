use Rattle.std.proofs.Common.{◌≡◌, ◌<◌, ◌++◌, ◌∷◌, [], length, arith}
use Rattle.std.proofs.lemmas.Result.{err_from_is_err_and}
use Rattle.std.proofs.lemmas.List.{map_push}
use Rattle.acpi_code.proofs.Lists.{turned, all_turned}
use Rattle.acpi_terms.proofs.Parts.{stopped_there}
use Rattle.acpi_terms.specs.steps.Reading.{external_at}
use Rattle.acpi_tree.specs.View.{external_view, externals_view}
use Rattle.acpi_terms.proofs.block.externals.Goals as goal

pub returns-in_err-external_term : goal.returns-in_err-external_term
returns-in_err-external_term c =
    let p = err_from_is_err_and c.from_residual.result c.from_residual.ensures.1 in
    let some : 0 < length c.each.code.bytes = grind arith in
    rw (p.1, p.2) (stopped_there (external_at c.args.level) c.args.code.now c.each.code _ _ some c.in_err-external_term.ensures c.each.invariant)

pub each-preserved : goal.each-preserved
each-preserved c =
    let n = c.in_ok-external_term.field-0 in
    let some : 0 < length c.each.code.bytes = grind arith in
    let e : externals_view c.push.new.self.items ≡ externals_view c.each.found.items ++ external_view n ∷ [] = rw c.in_ok-push.ensures.items (map_push _ c.each.found.items n) in
    rw e (turned (external_at c.args.level) c.args.code.now c.each.code c.external_term.new.code _ _ some c.in_ok-external_term.ensures.0 c.in_ok-external_term.ensures.1 c.each.invariant)

pub returns : goal.returns
returns c =
    let none : length c.each.code.bytes ≡ 0 = grind arith in
    all_turned (external_at c.args.level) c.args.code.now c.each.code _ none c.each.invariant
