use Rattle.std.proofs.Common.{◌≡◌, ◌<◌, ◌-◌, false, arith, ◌∙◌, sym}
use Rattle.std.proofs.lemmas.Result.{err_from_is_err_and}
use Rattle.acpi_tree.specs.View.{item_view}
use Rattle.acpi_terms.specs.steps.Reading.{item_by, items_with, item_at}
use Rattle.acpi_terms.specs.steps.ScopeBlocks.{scope_block_item, HasFront}
use Rattle.acpi_terms.proofs.ScopeBlocks.{scope_opened}
use Rattle.acpi_terms.proofs.Leaves.{leaf_read}
use Rattle.acpi_terms.proofs.Opened.{item_opened, fails_behind, shorter_on}
use Rattle.acpi_terms.proofs.item.next_item.Goals as goal

pub returns-in_err-open_block : goal.returns-in_err-open_block
returns-in_err-open_block c =
    let p = err_from_is_err_and c.from_residual-in_err-open_block.result c.from_residual-in_err-open_block.ensures.1 in
    let some : 0 < c.args.level = grind arith in
    let opens : item_at c.args.level c.args.code.now.end c.args.code.now.bytes
    ≡ scope_block_item (items_with (item_at (c.args.level - 1))) c.in_ok-opcode.opcode c.opcode.new.self.end c.opcode.new.self.bytes
    = rw c.in_ok-opcode.ensures.1.same_end
    (scope_opened c.args.level c.args.code.now.end c.args.code.now.bytes c.in_ok-opcode.opcode c.opcode.new.self.bytes some c.in_ok-opcode.ensures.0 (sym c.opens_items.ensures ∙ c.if-opens_items.true)) in
    rw (p.1, p.2) (fails_behind _ _ _ opens (c.in_err-open_block.ensures (items_with (item_at (c.args.level - 1)))))

pub returns-in_err-leaf : goal.returns-in_err-leaf
returns-in_err-leaf c =
    let p = err_from_is_err_and c.from_residual-in_err-leaf.result c.from_residual-in_err-leaf.ensures.1 in
    let some : 0 < c.args.level = grind arith in
    let opens : item_at c.args.level c.args.code.now.end c.args.code.now.bytes
    ≡ item_by (items_with (item_at (c.args.level - 1))) (c.args.level - 1) c.opcode.new.self.end c.fork-front.result.bytes c.in_ok-opcode.opcode c.opcode.new.self.bytes
    = rw (c.in_ok-opcode.ensures.1.same_end, c.fork-front.ensures)
    (item_opened c.args.level c.args.code.now.end c.args.code.now.bytes c.in_ok-opcode.opcode c.opcode.new.self.bytes some c.in_ok-opcode.ensures.0) in
    rw (p.1, p.2) (fails_behind _ _ _ opens c.in_err-leaf.ensures)

pub returns-in_ok-open_block : goal.returns-in_ok-open_block
returns-in_ok-open_block c =
    let some : 0 < c.args.level = grind arith in
    let opens : item_at c.args.level c.args.code.now.end c.args.code.now.bytes
    ≡ scope_block_item (items_with (item_at (c.args.level - 1))) c.in_ok-opcode.opcode c.opcode.new.self.end c.opcode.new.self.bytes
    = rw c.in_ok-opcode.ensures.1.same_end
    (scope_opened c.args.level c.args.code.now.end c.args.code.now.bytes c.in_ok-opcode.opcode c.opcode.new.self.bytes some c.in_ok-opcode.ensures.0 (sym c.opens_items.ensures ∙ c.if-opens_items.true)) in
    let begun = c.in_ok-open_block.ensures in
    let holds = sym c.opens_items.ensures ∙ c.if-opens_items.true in
    let front : HasFront c.args.code.now c.open_block.new.code c.in_ok-open_block.field-0 = (c.in_ok-opcode.opcode, c.opcode.new.self.bytes, c.in_ok-opcode.ensures.0, holds, λ inner. rw (← c.in_ok-opcode.ensures.1.same_end) (begun.0 inner)) in
    ((opens ∙ begun.0 (items_with (item_at (c.args.level - 1))), front), some, shorter_on c.in_ok-opcode.ensures.1 begun.1)

pub returns-in_ok-leaf : goal.returns-in_ok-leaf
returns-in_ok-leaf c =
    let some : 0 < c.args.level = grind arith in
    let opens : item_at c.args.level c.args.code.now.end c.args.code.now.bytes
    ≡ item_by (items_with (item_at (c.args.level - 1))) (c.args.level - 1) c.opcode.new.self.end c.fork-front.result.bytes c.in_ok-opcode.opcode c.opcode.new.self.bytes
    = rw (c.in_ok-opcode.ensures.1.same_end, c.fork-front.ensures)
    (item_opened c.args.level c.args.code.now.end c.args.code.now.bytes c.in_ok-opcode.opcode c.opcode.new.self.bytes some c.in_ok-opcode.ensures.0) in
    let bare = leaf_read _ (c.args.level - 1) _ c.fork-front.result.bytes c.in_ok-opcode.opcode c.opcode.new.self.bytes (sym c.opens_items.ensures ∙ c.if-opens_items.false) _ c.in_ok-leaf.ensures.0 in
    (opens ∙ c.in_ok-leaf.ensures.0, bare, some, shorter_on c.in_ok-opcode.ensures.1 c.in_ok-leaf.ensures.1)
