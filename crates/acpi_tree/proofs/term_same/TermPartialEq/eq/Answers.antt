use Rattle.acpi_tree.specs.TermView.{term_view}
use Rattle.acpi_tree.specs.steps.Equality.{decides}
use Rattle.acpi_tree.specs.steps.TermEquality.{term_tells}
use Rattle.acpi_tree.proofs.term_same.TermPartialEq.eq.Goals as goal

pub returns-clause-same : goal.returns-clause-same
returns-clause-same c = rw c.same_term.ensures (decides term_tells (term_view c.args.self.now) (term_view c.args.other.now))
