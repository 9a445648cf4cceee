use Rattle.acpi_tree.specs.Objects.{method_object}
use Rattle.acpi_pass.specs.steps.View.{pass_of}
use Rattle.acpi_pass.proofs.PassSteps.{declared_method}
use Rattle.acpi_pass.proofs.pass.Pass.declare_method.Goals as goal

pub returns-clause-steps : goal.returns-clause-steps
returns-clause-steps g c =
    let before = pass_of c.args.self.now in
    declared_method before _ _ _ c.args.scope.now _ c.args.name.now (method_object c.args.flags) c.args.code c.in_ok-path.ensures c.in_ok-put_method.ensures.objects
    c.in_ok-put_method.ensures.links c.in_ok-put_method.ensures.notes
