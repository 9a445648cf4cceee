use Rattle.std.proofs.Common.{◌≡◌, ◌≤◌, length, sym, ◌∙◌, arith, false}
use Rattle.std.proofs.lemmas.List.Folds.{list_all-map}
use Rattle.acpi_tree.specs.View.{field_view}
use Rattle.acpi_tree.specs.Fits.{field_fits}
use Rattle.acpi_tree.proofs.Alike.{unfit_at, all_fit}
use Rattle.acpi_tree.proofs.fits.fields_may_stand.Goals as goal

pub returns-then-not-field_may_stand : goal.returns-then-not-field_may_stand
returns-then-not-field_may_stand c =
    let unfit : field_fits (field_view c.elem-item.result) ≡ false = sym c.field_may_stand.ensures ∙ c.if-not-field_may_stand.true in
    sym (list_all-map field_fits field_view c.args.elems.now ∙ unfit_at
    (λ x. field_fits (field_view x)) c.args.elems.now c.loop-elem.elem-index _ c.loop-elem-test.true c.elem-item.is unfit c.loop-elem.invariant)

pub returns : goal.returns
returns c =
    let all : length c.args.elems.now ≤ c.loop-elem.elem-index = grind arith in
    sym (list_all-map field_fits field_view c.args.elems.now ∙ all_fit (λ x. field_fits (field_view x)) c.args.elems.now c.loop-elem.elem-index all c.loop-elem.invariant)
