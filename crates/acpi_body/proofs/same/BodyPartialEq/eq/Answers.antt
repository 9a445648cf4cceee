use Rattle.acpi_tree.specs.steps.Equality.{decides}
use Rattle.acpi_body.specs.Bodies.{body_view}
use Rattle.acpi_body.specs.steps.BodyEquality.{body_tells}
use Rattle.acpi_body.proofs.same.BodyPartialEq.eq.Goals as goal

pub returns-clause-same : goal.returns-clause-same
returns-clause-same c = rw c.same_body.ensures (decides body_tells (body_view c.args.self.now) (body_view c.args.other.now))
