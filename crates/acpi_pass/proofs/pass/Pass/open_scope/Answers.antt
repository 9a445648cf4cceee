use Rattle.std.proofs.Common.{◌≡◌, ◌∙◌, List, ap, sym, refl, rules}
use Rattle.acpi_name.specs.Names.{Segment}
use Rattle.acpi_space.specs.Lookups.{is_defined_in}
use Rattle.acpi_space.specs.Search.{missed}
use Rattle.acpi_space.specs.Spaces.{is_defined}
use Rattle.acpi_pass.specs.Pending.{all_pending_of}
use Rattle.acpi_pass.specs.Namespace.{namespace_of}
use Rattle.acpi_pass.specs.Notes.{notes_of}
use Rattle.acpi_pass.specs.steps.View.{pass_of, with_missed}
use Rattle.acpi_pass.proofs.Searches.{is_defined-namespace}
use Rattle.acpi_pass.proofs.PassSteps.{opened_scope}
use Rattle.acpi_pass.proofs.pass.Pass.open_scope.Goals as goal

pub returns-in_ok-add_missed-in-Ok-clause-steps : goal.returns-in_ok-add_missed-in-Ok-clause-steps
returns-in_ok-add_missed-in-Ok-clause-steps g c =
    let objects = g.S.Space.contents c.self.inside.objects in
    let before = pass_of (record { objects = objects; lower = g.S.Space.lower c.self.inside.objects; links = all_pending_of c.self.inside.links.items; notes = c.self.inside.notes }) in
    let found : c.in-Ok.paths.items ≡ missed (is_defined objects) c.args.scope.now c.args.name.now = search rules in
    let same : missed (is_defined objects) c.args.scope.now c.args.name.now ≡ missed (is_defined_in (namespace_of objects)) c.args.scope.now c.args.name.now =
    ap (λ d. missed d c.args.scope.now c.args.name.now) (sym (is_defined-namespace objects)) in
    rw (← c.self.view_is) (
      c.in_ok-target.ensures,
      opened_scope before before.objects before.links (notes_of c.add_missed.new.self) c.args.scope.now c.in_ok-target.target c.args.name.now refl refl
          (c.in_ok-add_missed-in-Ok.ensures ∙ ap (λ (paths : List (List Segment)). with_missed before.notes paths) (found ∙ same)),
    )
