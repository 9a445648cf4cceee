use Rattle.acpi_tree.specs.TermView.{operand_view}
use Rattle.acpi_tree.specs.steps.Equality.{decides}
use Rattle.acpi_tree.specs.steps.TermEquality.{term_tells}
use Rattle.acpi_tree.proofs.term_same.OperandPartialEq.eq.Goals as goal

pub returns-clause-same : goal.returns-clause-same
returns-clause-same c = rw c.same_operand.ensures (decides term_tells (operand_view c.args.self.now) (operand_view c.args.other.now))
