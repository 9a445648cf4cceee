use Rattle.std.proofs.Common.{length}
use Rattle.acpi_outline.specs.View.{fixed_view, placed_fields}
use Rattle.acpi_outline.specs.steps.Elements.{FieldsFollow}
use Rattle.acpi_outline.proofs.fields.fields.Given as goal

abbrev pub invariant-each : goal.invariant-each
invariant-each g l = FieldsFollow g.K.Known.rules (fixed_view l.fixed) l.initial.known l.fn.code l.known l.code l.offset (placed_fields l.read.items)

abbrev pub decreases-each : goal.decreases-each
decreases-each g l = length l.code.bytes
