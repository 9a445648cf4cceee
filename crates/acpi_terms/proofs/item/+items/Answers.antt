use Rattle.std.proofs.Common.{◌≡◌, ◌<◌, length, arith, Ok}
use Rattle.std.proofs.lemmas.Result.{err_from_is_err_and}
use Rattle.acpi_tree.specs.Tree.{items_of}
use Rattle.acpi_tree.specs.View.{items_tree}
use Rattle.acpi_code.proofs.Lists.{all_turned, reads_on}
use Rattle.acpi_code.specs.steps.Reading.{each_at}
use Rattle.acpi_terms.proofs.ScopeBlocks.{turned_leaf, turned_scope, stopped_inside}
use Rattle.acpi_terms.proofs.Parts.{stopped_there, fails_on}
use Rattle.acpi_terms.specs.steps.Reading.{item_at}
use Rattle.acpi_terms.proofs.item.+items.Goals as goal

pub find_items-returns-in_err-block : goal.find_items-returns-in_err-block
find_items-returns-in_err-block t c =
    let p = err_from_is_err_and c.from_residual.result c.from_residual.ensures.1 in
    let some : 0 < length c.each.code.bytes = grind arith in
    rw (p.1, p.2) (fails_on _ (each_at (item_at c.args.level c.args.code.now.end) c.args.code.now.bytes) (λ xs. Ok (items_of xs)) (stopped_there (item_at c.args.level) c.args.code.now c.each.code _ _ some c.in_err-block.ensures c.each.invariant))

pub find_items-returns-in_err-items-in-Some : goal.find_items-returns-in_err-items-in-Some
find_items-returns-in_err-items-in-Some t c =
    let p = err_from_is_err_and c.from_residual-in_err-items-in-Some.result c.from_residual-in_err-items-in-Some.ensures.1 in
    let some : 0 < length c.each.code.bytes = grind arith in
    rw (p.1, p.2) (fails_on _ (each_at (item_at c.args.level c.args.code.now.end) c.args.code.now.bytes) (λ xs. Ok (items_of xs))
    (stopped_inside c.args.level c.args.code.now c.each.code c.next.new.code _ _ _ c.in-Some.block _ c.in-Some.is some c.in_ok-block.ensures c.in_err-items-in-Some.ensures c.each.invariant))

pub find_items-each-preserved-in-Continue-branch-4 : goal.find_items-each-preserved-in-Continue-branch-4
find_items-each-preserved-in-Continue-branch-4 t c =
    let some : 0 < length c.each.code.bytes = grind arith in
    turned_scope c.args.level c.args.code.now c.each.code c.next.new.code _ _ _ _ c.in-Some.block (items_tree c.in_ok-items-in-Some.items.items) c.in-Some.is some c.in_ok-block.ensures
    c.in_ok-items-in-Some.ensures c.in_ok-put-in-Some.ensures c.each.invariant

pub find_items-each-preserved : goal.find_items-each-preserved
find_items-each-preserved t c =
    let some : 0 < length c.each.code.bytes = grind arith in
    turned_leaf c.args.level c.args.code.now c.each.code c.next.new.code _ _ _ c.in-None.is some c.in_ok-block.ensures c.each.invariant

pub find_items-returns : goal.find_items-returns
find_items-returns t c =
    let none : length c.each.code.bytes ≡ 0 = grind arith in
    reads_on (each_at (item_at c.args.level c.args.code.now.end) c.args.code.now.bytes) _ (λ xs. Ok (items_of xs)) (all_turned (item_at c.args.level) c.args.code.now c.each.code _ none c.each.invariant)
