use Rattle.std.proofs.Common.{ap}
use Rattle.acpi_tree.specs.Objects.{object_view}
use Rattle.acpi_pass.specs.Notes.{notes_of}
use Rattle.acpi_pass.specs.steps.View.{pass_of}
use Rattle.acpi_pass.proofs.PassSteps.{declared_plainly}
use Rattle.acpi_pass.proofs.pass.Pass.declare.Goals as goal

pub returns-clause-steps : goal.returns-clause-steps
returns-clause-steps g c =
    let before = pass_of c.args.self.now in
    declared_plainly before _ _ _ c.args.scope.now _ c.args.name.now (object_view c.args.object) c.in_ok-path.ensures c.in_ok-put.ensures.objects
    c.in_ok-put.ensures.links (ap notes_of c.in_ok-put.ensures.notes)
