use Rattle.acpi_tree.specs.TermView.{term_view, operand_view}
use Rattle.acpi_write.specs.CanonicalTerms.{term_bytes}
use Rattle.acpi_write.specs.steps.Writing.{Ahead}
use Rattle.acpi_write.specs.Laws.{IsTermTyped}
use Rattle.acpi_write.proofs.Seen.{Behind}
use Rattle.acpi_write.proofs.writer.Writer.+terms.Given as goal

abbrev pub invariant-terms-loop-i : goal.invariant-terms-loop-i
invariant-terms-loop-i l = (Ahead (λ x. term_bytes (term_view x)) l.terms l.i l.initial.self l.self) × Behind (λ x. IsTermTyped (term_view x)) l.terms l.i

abbrev pub invariant-operands-loop-i : goal.invariant-operands-loop-i
invariant-operands-loop-i l = (Ahead (λ x. term_bytes (operand_view x)) l.operands l.i l.initial.self l.self) × Behind (λ x. IsTermTyped (operand_view x)) l.operands l.i
