use Rattle.std.proofs.Common.{◌≡◌, ◌++◌, drop}
use Rattle.acpi_tree.specs.Terms.{terms_of}
use Rattle.acpi_tree.specs.TermView.{terms_tree, operands_view}
use Rattle.acpi_needs.specs.Needs.{names_in_all, names_in_elements}
use Rattle.acpi_needs.proofs.needs.+names.Given as goal

abbrev pub invariant-add_of_terms-each : goal.invariant-add_of_terms-each
invariant-add_of_terms-each l =
    l.names.items ++ names_in_all (terms_tree (drop l.term-index l.terms)) ≡ l.initial.names.items ++ names_in_all (terms_tree l.terms)

abbrev pub invariant-add_of_operands-each : goal.invariant-add_of_operands-each
invariant-add_of_operands-each l =
    l.names.items ++ names_in_all (terms_of (operands_view (drop l.operand-index l.operands))) ≡ l.initial.names.items ++ names_in_all (terms_of (operands_view l.operands))

abbrev pub invariant-add_of_elements-each : goal.invariant-add_of_elements-each
invariant-add_of_elements-each l =
    l.names.items ++ names_in_elements (terms_tree (drop l.element-index l.elements)) ≡ l.initial.names.items ++ names_in_elements (terms_tree l.elements)
