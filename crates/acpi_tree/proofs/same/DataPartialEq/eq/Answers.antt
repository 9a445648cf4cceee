use Rattle.acpi_tree.specs.View.{data_view}
use Rattle.acpi_tree.specs.steps.Equality.{decides, data_tells}
use Rattle.acpi_tree.proofs.same.DataPartialEq.eq.Goals as goal

pub returns-clause-same : goal.returns-clause-same
returns-clause-same c = rw c.same_data.ensures (decides data_tells (data_view c.args.self.now) (data_view c.args.other.now))
