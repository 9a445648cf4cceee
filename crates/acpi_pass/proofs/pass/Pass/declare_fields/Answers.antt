use Rattle.std.proofs.Common.{◌≡◌, ◌∙◌, List, ap, sym}
use Rattle.acpi_name.specs.Names.{NameParts}
use Rattle.acpi_tree.specs.View.{fields_view}
use Rattle.acpi_pass.specs.Pending.{pending_from, unit_paths}
use Rattle.acpi_pass.specs.Sites.{Step, unit_steps}
use Rattle.acpi_pass.specs.steps.Pass.{Pass, take_steps}
use Rattle.acpi_pass.specs.steps.View.{pass_of, pass_with_units}
use Rattle.acpi_pass.proofs.PassSteps.{passed, with_nothing}
use Rattle.acpi_pass.proofs.pass.Pass.declare_fields.Goals as goal

pub returns-clause-steps : goal.returns-clause-steps
returns-clause-steps g c =
    let s = c.args.scope.now in
    let names = c.args.names.items in
    let read = c.deref.result.now in
    let steps : List NameParts → List Step = λ ns. unit_steps c.args.form c.args.flags ns 0 (fields_view c.args.elems.items) in
    let t = pass_of c.args.self.now in
    let before = pass_with_units c.args.self.now read s c.new-segs.result.items in
    let after = c.declare_units.new.self in
    let segs = c.declare_units.new.segs.items in
    let kept : pass_with_units after read s segs ≡ pass_of c.add_units.new.self =
    ap (λ (ns : List NameParts). pass_with_units after ns s segs) c.deref.ensures.value ∙ sym c.in_ok-add_units.ensures.units in
    ap (λ (p : Pass). take_steps p s (steps names)) (sym (with_nothing t _ (ap (λ segs. pending_from s read (unit_paths s segs)) c.new-segs.ensures.items)))
    ∙ ap (λ (ns : List NameParts). take_steps before s (steps ns)) (sym c.deref.ensures.value)
    ∙ c.in_ok-declare_units.ensures.steps
    ∙ ap passed kept
