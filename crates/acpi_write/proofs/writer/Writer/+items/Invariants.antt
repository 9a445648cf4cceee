use Rattle.acpi_tree.specs.View.{item_view}
use Rattle.acpi_write.specs.CanonicalItems.{item_bytes}
use Rattle.acpi_write.specs.steps.Writing.{Ahead}
use Rattle.acpi_write.specs.Laws.{IsItemTyped}
use Rattle.acpi_write.proofs.Seen.{Behind}
use Rattle.acpi_write.proofs.writer.Writer.+items.Given as goal

abbrev pub invariant-items-loop-i : goal.invariant-items-loop-i
invariant-items-loop-i l = (Ahead (λ x. item_bytes (item_view x)) l.items l.i l.initial.self l.self) × Behind (λ x. IsItemTyped (item_view x)) l.items l.i
