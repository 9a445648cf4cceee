use Rattle.std.proofs.Common.{◌≡◌, ◌+◌, ◌*◌, drop}
use denote.Param.Weighed.{most}
use Rattle.acpi_tree.specs.declared.term.Term.{Term}
use Rattle.acpi_tree.specs.declared.term.Decl.TheShapes.{weighed-Term-If-2}
use Rattle.acpi_tree.proofs.term.Term.TheLaws.{the_size}
use Rattle.acpi_tree.specs.TermView.{terms_tree}
use Rattle.acpi_body.specs.Statements.{locals_after_all}
use Rattle.acpi_body.specs.steps.Gathering.{after_statements}
use Rattle.acpi_body.proofs.searched.+statement.Given as goal

abbrev pub decreases-statement : goal.decreases-statement
decreases-statement g l = 3 * the_size l.term.now

abbrev pub decreases-statements : goal.decreases-statements
decreases-statements g l = 3 * most (λ t. the_size t) l.terms.now + 1

abbrev pub decreases-else_statements : goal.decreases-else_statements
decreases-else_statements g l = 3 * weighed-Term-If-2.weight Term (λ t. the_size t) l.other.now + 2

abbrev pub invariant-statements-each : goal.invariant-statements-each
invariant-statements-each g l = record {
  locals : locals_after_all l.context.method l.locals (terms_tree (drop l.term-index l.terms)) ≡ locals_after_all l.context.method l.initial.locals (terms_tree l.terms);
  gathered : after_statements (g.Q.Wanted.wanted l.wanted) l.context l.locals l.gathered (terms_tree (drop l.term-index l.terms)) ≡ after_statements
      (g.Q.Wanted.wanted l.wanted) l.context l.initial.locals l.initial.gathered (terms_tree l.terms);
}
