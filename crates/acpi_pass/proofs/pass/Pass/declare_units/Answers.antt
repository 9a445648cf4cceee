use Rattle.std.proofs.Common.{◌≡◌, List, ◌∙◌, ◌∷◌, [], ◌+◌, ap, sym, reverse, ℕ}
use Rattle.std.proofs.lemmas.List.{reverse-append, reverse-reverse}
use Rattle.std.proofs.lemmas.Result.{err_from_is_err_and}
use Rattle.acpi_tree.specs.View.{field_view, fields_view}
use Rattle.acpi_tree.specs.declared.tree.FieldElem.{FieldElem}
use Rattle.acpi_pass.specs.steps.View.{pass_with_units}
use Rattle.acpi_pass.specs.Sites.{Step, unit_step, unit_steps}
use Rattle.acpi_pass.specs.steps.Pass.{take_steps}
use Rattle.acpi_tree.specs.Offsets.{element_bits}
use Rattle.acpi_pass.proofs.StepLists.{told_on}
use Rattle.acpi_pass.proofs.pass.Pass.declare_units.Goals as goal

pub returns-in_err-offset-clause-steps : goal.returns-in_err-offset-clause-steps
returns-in_err-offset-clause-steps g c =
    let p = err_from_is_err_and c.from_residual.result c.from_residual.ensures.1 in
    let l = c.loop-elem in
    let elem = c.in-Some.elem in
    let rest = reverse c.pop.new.self.items in
    let now : reverse l.left.items ≡ elem ∷ rest = ap reverse c.in-Some.ensures.items ∙ reverse-append c.pop.new.self.items (elem ∷ []) in
    let whole : reverse c.reverse.new.self.items ≡ c.args.elems.items = ap reverse c.reverse.ensures.items ∙ reverse-reverse c.args.elems.items in
    let list = c.args.fields.now in
    let steps : ℕ → List FieldElem → List Step = λ offset es. unit_steps list.form list.flags list.names.now offset (fields_view es) in
    let pass = pass_with_units l.self list.names.now c.args.scope.now l.segs.items in
    let first = pass_with_units c.args.self.now list.names.now c.args.scope.now c.args.segs.now.items in
    rw (p.1, p.2)
    (told_on c.in_err-offset.field-0.0 pass first c.args.scope.now
    (unit_step list.form list.flags list.names.now l.offset (field_view elem))
    (unit_steps list.form list.flags list.names.now (l.offset + element_bits (field_view elem)) (fields_view rest))
    (unit_steps list.form list.flags list.names.now 0 (fields_view c.args.elems.items))
    (ap (λ es. take_steps pass c.args.scope.now (steps l.offset es)) (sym now) ∙ l.invariant.0 ∙ ap (λ es. take_steps first c.args.scope.now (steps 0 es)) whole)
    c.in_err-offset.ensures.steps)
