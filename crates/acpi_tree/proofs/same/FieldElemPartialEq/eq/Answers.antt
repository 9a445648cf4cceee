use Rattle.acpi_tree.specs.View.{field_view}
use Rattle.acpi_tree.specs.steps.Equality.{decides, field_tells}
use Rattle.acpi_tree.proofs.same.FieldElemPartialEq.eq.Goals as goal

pub returns-clause-same : goal.returns-clause-same
returns-clause-same c = rw c.same_field.ensures (decides field_tells (field_view c.args.self.now) (field_view c.args.other.now))
