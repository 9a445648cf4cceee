use Rattle.std.proofs.Common.{◌≡◌, ◌∙◌, ◌∷◌, [], ◌++◌, ap}
use Rattle.std.proofs.lemmas.List.{map-append}
use Rattle.acpi_tree.specs.Objects.{field_object}
use Rattle.acpi_pass.specs.Pending.{unit_paths}
use Rattle.acpi_pass.specs.Namespace.{namespace_of}
use Rattle.acpi_pass.specs.Notes.{notes_of}
use Rattle.acpi_pass.specs.Sites.{unit_name}
use Rattle.acpi_pass.specs.steps.View.{pass_with_units}
use Rattle.acpi_pass.proofs.PassSteps.{declared_linked}
use Rattle.acpi_pass.proofs.LinkAnswers.{unit_links}
use Rattle.acpi_pass.proofs.Places.{unit_is}
use Rattle.acpi_pass.proofs.pass.Pass.declare_unit.Goals as goal

pub returns-clause-steps : goal.returns-clause-steps
returns-clause-steps g c =
    let s = c.args.scope.now in
    let names = c.args.fields.now.names.now in
    let paths = unit_paths s c.args.segs.now.items in
    let before = pass_with_units c.args.self.now names s c.args.segs.now.items in
    let more : unit_paths s c.push.new.self.items ≡ paths ++ (s ++ c.args.seg ∷ []) ∷ [] = ap (unit_paths s) c.in_ok-push.ensures.items ∙ map-append (λ g. s ++ g ∷ []) c.args.segs.now.items (c.args.seg ∷ []) in
    declared_linked before _ _ _ s _ (unit_name c.args.seg) (field_object c.args.fields.now.form c.args.fields.now.flags c.args.offset c.args.bits) names c.requires c.in_ok-path.ensures c.in_ok-put.ensures.objects
    (unit_links c.args.self.now.links _ s names paths _ _ _ c.in_ok-put.ensures.links more (unit_is (namespace_of c.args.self.now.objects) s c.args.seg _ c.in_ok-path.ensures))
    (ap notes_of c.in_ok-put.ensures.notes)
