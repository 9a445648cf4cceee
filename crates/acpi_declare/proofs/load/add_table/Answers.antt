use Rattle.std.proofs.Common.{◌≡◌, ◌∙◌, ◌++◌, [], List, map, ap, sym, subst, refl, Ok, Err}
use Rattle.std.proofs.lemmas.Result.{err_from_is_err_and}
use Rattle.acpi_name.specs.Names.{Segment}
use Rattle.acpi_tree.specs.View.{items_tree}
use Rattle.acpi_declare.specs.Declaring.{state_of}
use Rattle.acpi_pass.specs.Pending.{all_pending_of}
use Rattle.acpi_pass.specs.Kept.{kept_of}
use Rattle.acpi_pass.specs.Namespace.{namespace_of}
use Rattle.acpi_pass.specs.Notes.{Notes, notes_of}
use Rattle.acpi_declare.specs.steps.Adding.{AddsTable}
use Rattle.acpi_pass.specs.steps.Pass.{pass_items}
use Rattle.acpi_declare.specs.steps.Outcomes.{IsTableFault}
use Rattle.acpi_pass.specs.steps.Outcomes.{IsPassErrorOf}
use Rattle.acpi_pass.specs.steps.View.{PassState, pass_of}
use Rattle.acpi_pass.proofs.PassSteps.{passed}
use Rattle.acpi_declare.proofs.TableListings.{pass_refused, pass_adds}
use Rattle.acpi_declare.proofs.load.add_table.Goals as goal

pub returns-in_err-items-clause-err : goal.returns-in_err-items-clause-err
returns-in_err-items-clause-err g c =
    let p = err_from_is_err_and c.from_residual.result c.from_residual.ensures.1 in
    rw (p.1, p.2) (c.in_err-items.ensures.err (namespace_of (g.S.Space.contents c.args.loaded.objects)))

pub returns-in-Err-Refused-clause-err : goal.returns-in-Err-Refused-clause-err
returns-in-Err-Refused-clause-err g c =
    let objects = namespace_of (g.S.Space.contents c.args.loaded.objects) in
    let t = pass_of (record { objects = g.S.Space.contents c.args.loaded.objects; lower = g.S.Space.lower c.args.loaded.objects; links = all_pending_of c.args.loaded.links.items; notes = c.new.result }) in
    let is = items_tree c.in_ok-items.items.items in
    let told : pass_items t c.root.result is ≡ Err (c.in-Err-Refused.refusal, c.in-Err-Refused.path) =
    subst (λ f. IsPassErrorOf f (pass_items t c.root.result is)) c.in-Err-Refused.field-0-is c.in-Err-Refused.ensures.steps in
    let stopped : pass_items t [] is ≡ Err (c.in-Err-Refused.refusal, c.in-Err-Refused.path) = ap (λ (s : List Segment). pass_items t s is) (sym c.root.ensures) ∙ told in
    subst (IsTableFault c.args.depth c.args.number objects c.args.bytes.now) (sym c.table_fault.ensures)
    (refl, (is, c.in_ok-items.ensures.ok, pass_refused t is (c.in-Err-Refused.refusal, c.in-Err-Refused.path) stopped))

pub returns-clause-ok : goal.returns-clause-ok
returns-clause-ok g c =
    let t = pass_of (record { objects = g.S.Space.contents c.args.loaded.objects; lower = g.S.Space.lower c.args.loaded.objects; links = all_pending_of c.args.loaded.links.items; notes = c.new.result }) in
    let u = pass_of (record { objects = g.S.Space.contents c.pass.inside.objects; lower = g.S.Space.lower c.pass.inside.objects; links = all_pending_of c.pass.inside.links.items; notes = c.pass.inside.notes }) in
    let is = items_tree c.in_ok-items.items.items in
    let before = state_of g.S.Space.contents c.args.loaded in
    let ran : pass_items t [] is ≡ Ok u = ap (λ (s : List Segment). pass_items t s is) (sym c.root.ensures) ∙ c.in-Ok.ensures.steps ∙ ap (λ (s : PassState). passed (pass_of s)) (sym c.pass.view_is) in
    let notes = map notes_of c.args.loaded.notes.items in
    let kept : map notes_of c.put_kept.new.kept.items ≡ notes ++ kept_of c.args.keep u.notes =
    c.in_ok-put_kept.ensures in
    subst (λ (l : List Notes). AddsTable c.args.keep c.args.depth c.args.number c.args.bytes.now before (record { objects = u.objects; links = u.links; notes = l })) (sym kept)
    (pass_adds c.args.keep c.args.depth c.args.number c.args.bytes.now is t u notes c.in_ok-items.ensures.ok ran c.new.ensures)
