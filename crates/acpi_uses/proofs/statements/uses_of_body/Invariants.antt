use Rattle.std.proofs.Common.{◌≡◌, ◌++◌, ◌+◌, drop}
use Rattle.acpi_uses.specs.Statements.{uses_from}
use Rattle.acpi_uses.specs.UseViews.{line_uses_view, statements_view}
use Rattle.acpi_uses.proofs.statements.uses_of_body.Given as goal

abbrev pub invariant-each : goal.invariant-each
invariant-each l = line_uses_view l.uses.items ++ uses_from (l.i + 1) (statements_view (drop l.i l.statements.items)) ≡ uses_from 1 (statements_view l.statements.items)
