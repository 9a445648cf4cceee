use Rattle.std.proofs.Common.{◌≡◌, ◌++◌, drop}
use Rattle.acpi_tree.specs.Terms.{terms_of}
use Rattle.acpi_tree.specs.TermView.{terms_tree, operands_view}
use Rattle.acpi_survey.specs.NameUses.{lent_names, names_used_all}
use Rattle.acpi_survey.proofs.name_uses.+name_uses.Given as goal

abbrev pub invariant-add_of_terms-each : goal.invariant-add_of_terms-each
invariant-add_of_terms-each l =
    lent_names l.names.items ++ names_used_all l.wanted (terms_tree (drop l.term-index l.terms))
    ≡ lent_names l.initial.names.items ++ names_used_all l.wanted (terms_tree l.terms)

abbrev pub invariant-add_of_operands-each : goal.invariant-add_of_operands-each
invariant-add_of_operands-each l =
    lent_names l.names.items ++ names_used_all l.wanted (terms_of (operands_view (drop l.operand-index l.operands)))
    ≡ lent_names l.initial.names.items ++ names_used_all l.wanted (terms_of (operands_view l.operands))
