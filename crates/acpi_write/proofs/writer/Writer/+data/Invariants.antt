use Rattle.acpi_tree.specs.DataTerms.{elem_term}
use Rattle.acpi_tree.specs.View.{elem_view}
use Rattle.acpi_write.specs.steps.Writing.{Ahead}
use Rattle.acpi_write.specs.CanonicalTerms.{term_bytes}
use Rattle.acpi_write.specs.Laws.{IsTermTyped}
use Rattle.acpi_write.proofs.Seen.{Behind}
use Rattle.acpi_write.proofs.writer.Writer.+data.Given as goal

abbrev pub invariant-elems-loop-i : goal.invariant-elems-loop-i
invariant-elems-loop-i l = (Ahead (λ x. term_bytes (elem_term (elem_view x))) l.elems l.i l.initial.self l.self) × Behind (λ x. IsTermTyped (elem_term (elem_view x))) l.elems l.i
