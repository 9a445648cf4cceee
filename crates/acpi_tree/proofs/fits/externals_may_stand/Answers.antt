use Rattle.std.proofs.Common.{◌≡◌, ◌≤◌, length, sym, ◌∙◌, arith, false}
use Rattle.std.proofs.lemmas.List.Folds.{list_all-map}
use Rattle.acpi_tree.specs.View.{external_view}
use Rattle.acpi_tree.specs.Fits.{external_fits}
use Rattle.acpi_tree.proofs.Alike.{unfit_at, all_fit}
use Rattle.acpi_tree.proofs.fits.externals_may_stand.Goals as goal

pub returns-then-not-external_may_stand : goal.returns-then-not-external_may_stand
returns-then-not-external_may_stand c =
    let unfit : external_fits (external_view c.external-item.result) ≡ false = sym c.external_may_stand.ensures ∙ c.if-not-external_may_stand.true in
    sym (list_all-map external_fits external_view c.args.externals.now
    ∙ unfit_at (λ x. external_fits (external_view x)) c.args.externals.now c.loop-external.external-index _ c.loop-external-test.true c.external-item.is unfit c.loop-external.invariant)

pub returns : goal.returns
returns c =
    let all : length c.args.externals.now ≤ c.loop-external.external-index = grind arith in
    sym (list_all-map external_fits external_view c.args.externals.now
    ∙ all_fit (λ x. external_fits (external_view x)) c.args.externals.now c.loop-external.external-index all c.loop-external.invariant)
