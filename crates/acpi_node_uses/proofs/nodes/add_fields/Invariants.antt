use Rattle.std.proofs.Common.{◌≡◌, ◌++◌, drop}
use Rattle.acpi_outline.specs.View.{fields_before, fields_end, placed_fields}
use Rattle.acpi_uses.specs.UseViews.{uses_view}
use Rattle.acpi_node_uses.specs.NodeUses.{uses_of_fields}
use Rattle.acpi_node_uses.proofs.nodes.add_fields.Given as goal

abbrev pub invariant-each : goal.invariant-each
invariant-each l = uses_view l.uses.items ++ uses_of_fields (fields_before (placed_fields (drop l.field-index l.fields)) (fields_end l.fn._lost))
    ≡ uses_view l.initial.uses.items ++ uses_of_fields (fields_before (placed_fields l.fields) (fields_end l.fn._lost))
