use Rattle.std.proofs.Common.{length}
use Rattle.acpi_code.proofs.Lists.{Turns}
use Rattle.acpi_tree.specs.View.{fields_view}
use Rattle.acpi_code.specs.steps.Fields.{field_at}
use Rattle.acpi_code.proofs.field.field_elements.Given as goal

abbrev pub invariant-each : goal.invariant-each
invariant-each l = Turns field_at l.fn.code l.code (fields_view l.found.items)

abbrev pub decreases-each : goal.decreases-each
decreases-each l = length l.code.bytes
