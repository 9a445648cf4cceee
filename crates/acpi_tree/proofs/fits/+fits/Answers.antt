use Rattle.std.proofs.Common.{◌≡◌, ◌≤◌, length, sym, ◌∙◌, arith, false}
use Rattle.acpi_tree.specs.View.{elem_view}
use Rattle.acpi_tree.specs.Fits.{elem_fits}
use Rattle.acpi_tree.proofs.Alike.{unfit_at, all_fit, elems_fit_alike}
use Rattle.acpi_tree.proofs.fits.+fits.Goals as goal

pub elems_may_stand-returns-then-not-elem_may_stand : goal.elems_may_stand-returns-then-not-elem_may_stand
elems_may_stand-returns-then-not-elem_may_stand t c =
    let unfit : elem_fits (elem_view c.elem-item.result) ≡ false = sym c.elem_may_stand.ensures ∙ c.if-not-elem_may_stand.true in
    sym (elems_fit_alike c.args.elems.now ∙ unfit_at (λ x. elem_fits (elem_view x)) c.args.elems.now c.loop-elem.elem-index _ c.loop-elem-test.true c.elem-item.is unfit c.loop-elem.invariant)

pub elems_may_stand-returns : goal.elems_may_stand-returns
elems_may_stand-returns t c =
    let all : length c.args.elems.now ≤ c.loop-elem.elem-index = grind arith in
    sym (elems_fit_alike c.args.elems.now ∙ all_fit (λ x. elem_fits (elem_view x)) c.args.elems.now c.loop-elem.elem-index all c.loop-elem.invariant)
