use Rattle.std.proofs.Common.{◌≡◌, drop}
use Rattle.std.specs.Cmp.Lexicographic.{pointwise}
use Rattle.acpi_tree.specs.TermView.{term_view, operand_view}
use Rattle.acpi_tree.specs.steps.TermEquality.{term_eq}
use Rattle.acpi_tree.proofs.term_same.+same_term.Given as goal

abbrev pub invariant-same_terms-loop-i : goal.invariant-same_terms-loop-i
invariant-same_terms-loop-i l = pointwise (λ t u. term_eq (term_view t) (term_view u)) l.a l.b ≡ pointwise (λ t u. term_eq (term_view t) (term_view u)) (drop l.i l.a) (drop l.i l.b)

abbrev pub invariant-same_operands-loop-i : goal.invariant-same_operands-loop-i
invariant-same_operands-loop-i l = pointwise (λ o p. term_eq (operand_view o) (operand_view p)) l.a l.b ≡ pointwise (λ o p. term_eq (operand_view o) (operand_view p)) (drop l.i l.a) (drop l.i l.b)
