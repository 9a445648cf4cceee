use Rattle.std.proofs.Common.{◌≡◌, ◌≤◌, length, sym, ◌∙◌, arith, false}
use Rattle.acpi_tree.specs.View.{item_view}
use Rattle.acpi_tree.specs.Fits.{item_fits}
use Rattle.acpi_tree.proofs.Alike.{unfit_at, all_fit, items_fit_alike}
use Rattle.acpi_tree.proofs.fits.+items_fit.Goals as goal

pub items_fit-returns-then-not-item_may_stand : goal.items_fit-returns-then-not-item_may_stand
items_fit-returns-then-not-item_may_stand t c =
    let unfit : item_fits (item_view c.item-item.result) ≡ false = sym c.item_may_stand.ensures ∙ c.if-not-item_may_stand.true in
    sym (items_fit_alike c.args.items.now ∙ unfit_at (λ x. item_fits (item_view x)) c.args.items.now c.loop-item.item-index _ c.loop-item-test.true c.item-item.is unfit c.loop-item.invariant)

pub items_fit-returns : goal.items_fit-returns
items_fit-returns t c =
    let all : length c.args.items.now ≤ c.loop-item.item-index = grind arith in
    sym (items_fit_alike c.args.items.now ∙ all_fit (λ x. item_fits (item_view x)) c.args.items.now c.loop-item.item-index all c.loop-item.invariant)
