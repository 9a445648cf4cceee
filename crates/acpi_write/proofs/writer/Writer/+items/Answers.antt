use Rattle.std.proofs.Common.{◌-◌, ap, ◌∙◌, arith, Some}
use Rattle.std.proofs.lemmas.Result.{err_from_is_err_and}
use Rattle.std.specs.Fmt.{option_append}
use Rattle.acpi_tree.specs.View.{item_view}
use Rattle.acpi_write.specs.CanonicalItems.{item_bytes}
use Rattle.acpi_write.proofs.Fronts.{one_ahead, none_ahead, all_ahead, puts_fault, items_each}
use Rattle.acpi_write.specs.Laws.{IsItemTyped}
use Rattle.acpi_write.proofs.Seen.{behind_one, behind_all, seen_items}
use Rattle.acpi_write.proofs.writer.Writer.+items.Goals as goal

pub items-loop-i-preserved : goal.items-loop-i-preserved
items-loop-i-preserved t c = (
  one_ahead (λ x. item_bytes (item_view x)) c.args.items.now c.loop-i.i (c.loop-i.i - 1) c.index-items-i.result c.args.self.now c.loop-i.self c.item.new.self (omega arith) (omega arith) c.index-items-i.is c.loop-i.invariant.0 c.in_ok-item.ensures.put,
  behind_one (λ x. IsItemTyped (item_view x)) c.args.items.now c.loop-i.i (c.loop-i.i - 1) c.index-items-i.result (omega arith) (omega arith) c.index-items-i.is c.in_ok-item.ensures.typed c.loop-i.invariant.1,
)

pub items-returns-in_err-item-clause-put : goal.items-returns-in_err-item-clause-put
items-returns-in_err-item-clause-put t c = puts_fault c.from_residual.result c.in_err-item.field-0.0 _ (item_bytes (item_view c.index-items-i.result)) c.args.self.now c.loop-i.self c.item.new.self
    (err_from_is_err_and c.from_residual.result c.from_residual.ensures.1) c.in_err-item.ensures.put
    (λ none. items_each c.args.items.now ∙ none_ahead (λ x. item_bytes (item_view x)) c.args.items.now c.loop-i.i (c.loop-i.i - 1) c.index-items-i.result c.args.self.now c.loop-i.self (omega arith) (omega arith) c.index-items-i.is c.loop-i.invariant.0 none)

pub items-returns-clause-put : goal.items-returns-clause-put
items-returns-clause-put t c = ap (λ b. option_append b (Some c.args.self.now)) (items_each c.args.items.now) ∙ all_ahead (λ x. item_bytes (item_view x)) c.args.items.now c.loop-i.i c.args.self.now c.loop-i.self (omega arith) c.loop-i.invariant.0

pub items-returns-clause-typed : goal.items-returns-clause-typed
items-returns-clause-typed t c = seen_items c.args.items.now (behind_all (λ x. IsItemTyped (item_view x)) c.args.items.now c.loop-i.i (omega arith) c.loop-i.invariant.1)
