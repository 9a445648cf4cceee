use Rattle.std.proofs.Common.{◌≡◌, take}
use Rattle.acpi_tree.specs.TermView.{terms_view, operands_view}
use Rattle.acpi_tree.proofs.+copy_term.Given as goal

abbrev pub invariant-term_copies::copy_terms-loop-term : goal.invariant-term_copies::copy_terms-loop-term
invariant-term_copies::copy_terms-loop-term l = terms_view l.copies.items ≡ terms_view (take l.term-index l.terms)

abbrev pub invariant-term_copies::copy_operands-loop-operand : goal.invariant-term_copies::copy_operands-loop-operand
invariant-term_copies::copy_operands-loop-operand l = operands_view l.copies.items ≡ operands_view (take l.operand-index l.operands)
