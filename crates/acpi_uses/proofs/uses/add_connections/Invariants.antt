use Rattle.std.proofs.Common.{◌≡◌, ◌++◌, drop}
use Rattle.acpi_tree.specs.View.{fields_view}
use Rattle.acpi_uses.specs.Uses.{connections}
use Rattle.acpi_uses.specs.UseViews.{uses_view}
use Rattle.acpi_uses.proofs.uses.add_connections.Given as goal

abbrev pub invariant-each : goal.invariant-each
invariant-each l = uses_view l.uses.items ++ connections (fields_view (drop l.element-index l.elements)) ≡ uses_view l.initial.uses.items ++ connections (fields_view l.elements)
