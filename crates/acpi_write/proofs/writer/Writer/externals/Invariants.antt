use Rattle.std.proofs.Common.{Some}
use Rattle.acpi_tree.specs.View.{external_view}
use Rattle.acpi_write.specs.CanonicalItems.{external_bytes}
use Rattle.acpi_write.specs.steps.Writing.{Ahead}
use Rattle.acpi_write.specs.Laws.{IsExternalTyped}
use Rattle.acpi_write.proofs.Seen.{Behind}
use Rattle.acpi_write.proofs.writer.Writer.externals.Given as goal

abbrev pub invariant-loop-i : goal.invariant-loop-i
invariant-loop-i l = (Ahead (λ x. Some (external_bytes (external_view x))) l.externals l.i l.initial.self l.self) × Behind (λ x. IsExternalTyped (external_view x)) l.externals l.i
