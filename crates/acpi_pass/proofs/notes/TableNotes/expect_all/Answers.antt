use Rattle.std.proofs.Common.{◌≡◌, ◌∙◌, ◌∷◌, ◌+◌, ◌<◌, ◌≤◌, true, drop, length, ap, sym, arith, rules}
use Rattle.std.specs.List.{list_all}
use Rattle.std.proofs.lemmas.List.{at_drop_all, drop_more}
use Rattle.acpi_tree.specs.Fits.{external_fits}
use Rattle.acpi_tree.specs.View.{external_view, externals_view}
use Rattle.acpi_pass.specs.Notes.{notes_of}
use Rattle.acpi_pass.proofs.StepLists.{said_more, said_none}
use Rattle.acpi_pass.proofs.notes.TableNotes.expect_all.Goals as goal

pub loop-external-preserved : goal.loop-external-preserved
loop-external-preserved c =
    let l = c.loop-external in
    let xs = c.args.externals.now in
    let x = c.external-item.result in
    let rest = externals_view (drop (l.external-index + 1) xs) in
    let below : l.external-index < length xs = grind arith in
    let here : externals_view (drop l.external-index xs) ≡ external_view x ∷ rest =
    ap externals_view (drop_more xs l.external-index x below ∙ ap (λ y. y ∷ drop (l.external-index + 1) xs) (sym c.external-item.is)) in
    let fits : list_all external_fits rest ≡ true = search rules in
    (said_more (notes_of l.self) (notes_of c.expect.new.self) c.args.scope.now (external_view x) rest (externals_view (drop l.external-index xs)) here c.in_ok-expect.ensures ∙ l.invariant.0, fits)

pub returns : goal.returns
returns c =
    let l = c.loop-external in
    let past : length c.args.externals.now ≤ l.external-index = grind arith in
    said_none (notes_of l.self) c.args.scope.now (externals_view (drop l.external-index c.args.externals.now)) (at_drop_all externals_view c.args.externals.now l.external-index past) ∙ l.invariant.0
