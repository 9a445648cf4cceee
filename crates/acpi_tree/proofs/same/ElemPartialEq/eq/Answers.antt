use Rattle.acpi_tree.specs.View.{elem_view}
use Rattle.acpi_tree.specs.steps.Equality.{decides, elem_tells}
use Rattle.acpi_tree.proofs.same.ElemPartialEq.eq.Goals as goal

pub returns-clause-same : goal.returns-clause-same
returns-clause-same c = rw c.same_elem.ensures (decides elem_tells (elem_view c.args.self.now) (elem_view c.args.other.now))
