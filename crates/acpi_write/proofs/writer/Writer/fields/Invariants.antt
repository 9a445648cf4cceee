use Rattle.acpi_tree.specs.View.{field_view}
use Rattle.acpi_write.specs.Canonical.{field_bytes}
use Rattle.acpi_write.specs.steps.Writing.{Ahead}
use Rattle.acpi_write.specs.Laws.{IsFieldTyped}
use Rattle.acpi_write.proofs.Seen.{Behind}
use Rattle.acpi_write.proofs.writer.Writer.fields.Given as goal

abbrev pub invariant-loop-i : goal.invariant-loop-i
invariant-loop-i l = (Ahead (λ x. field_bytes (field_view x)) l.elems l.i l.initial.self l.self) × Behind (λ x. IsFieldTyped (field_view x)) l.elems l.i
