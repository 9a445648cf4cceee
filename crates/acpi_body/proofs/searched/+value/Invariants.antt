use Rattle.std.proofs.Common.{◌≡◌, drop}
use Rattle.acpi_tree.specs.Terms.{terms_of}
use Rattle.acpi_tree.specs.TermView.{terms_tree, operands_view}
use Rattle.acpi_body.specs.steps.Gathering.{after_values}
use Rattle.acpi_body.proofs.searched.+value.Given as goal

abbrev pub invariant-values-each : goal.invariant-values-each
invariant-values-each g l = after_values (g.Q.Wanted.wanted l.wanted) l.context l.locals l.gathered (terms_tree (drop l.term-index l.terms))
    ≡ after_values (g.Q.Wanted.wanted l.wanted) l.context l.locals l.initial.gathered (terms_tree l.terms)

abbrev pub invariant-operand_values-each : goal.invariant-operand_values-each
invariant-operand_values-each g l =
    after_values (g.Q.Wanted.wanted l.wanted) l.context l.locals l.gathered (terms_of (operands_view (drop l.operand-index l.operands)))
    ≡ after_values (g.Q.Wanted.wanted l.wanted) l.context l.locals l.initial.gathered (terms_of (operands_view l.operands))
