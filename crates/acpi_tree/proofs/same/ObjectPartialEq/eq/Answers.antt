use Rattle.acpi_tree.specs.Objects.{object_view}
use Rattle.acpi_tree.specs.steps.Equality.{decides, object_tells}
use Rattle.acpi_tree.proofs.same.ObjectPartialEq.eq.Goals as goal

pub returns-clause-same : goal.returns-clause-same
returns-clause-same c = rw c.same_object.ensures (decides object_tells (object_view c.args.self.now) (object_view c.args.other.now))
