use Rattle.std.proofs.Common.{◌∙◌, List, Ok, ap, sym}
use Rattle.acpi_name.specs.Names.{Segment}
use Rattle.acpi_tree.specs.Objects.{object_view}
use Rattle.acpi_pass.specs.Notes.{notes_of}
use Rattle.acpi_pass.specs.Placing.{Placed}
use Rattle.acpi_pass.specs.Sites.{step, declares_alone}
use Rattle.acpi_pass.specs.steps.Pass.{after, placement}
use Rattle.acpi_pass.specs.steps.View.{pass_of}
use Rattle.acpi_pass.proofs.PassSteps.{declared_scope}
use Rattle.acpi_pass.proofs.pass.Pass.declare_scope.Goals as goal

pub returns-clause-steps : goal.returns-clause-steps
returns-clause-steps g c =
    let before = pass_of c.args.self.now in
    let at : List Segment → Placed = λ p. Ok p in (
      c.in_ok-path.ensures ∙ ap at (sym c.in_ok-inside.ensures),
      declared_scope before _ _ _ c.args.scope.now c.in_ok-path.path c.args.name.now (object_view c.args.object) c.in_ok-put.ensures.objects
          c.in_ok-put.ensures.links (ap notes_of c.in_ok-put.ensures.notes)
          ∙ ap (λ (p : List Segment). after before (placement c.args.scope.now (step c.args.name.now (declares_alone (object_view c.args.object))) p)) (sym c.in_ok-inside.ensures),
    )
