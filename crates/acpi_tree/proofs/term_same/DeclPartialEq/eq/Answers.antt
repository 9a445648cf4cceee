use Rattle.acpi_tree.specs.TermView.{decl_view}
use Rattle.acpi_tree.specs.steps.Equality.{decides}
use Rattle.acpi_tree.specs.steps.TermEquality.{term_tells}
use Rattle.acpi_tree.proofs.term_same.DeclPartialEq.eq.Goals as goal

pub returns-clause-same : goal.returns-clause-same
returns-clause-same c = rw c.same_decl.ensures (decides term_tells (decl_view c.args.self.now) (decl_view c.args.other.now))
