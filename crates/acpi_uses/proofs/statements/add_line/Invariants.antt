use Rattle.std.proofs.Common.{◌≡◌, ◌++◌, drop, map}
use Rattle.acpi_uses.specs.UseViews.{line_uses_view, uses_view}
use Rattle.acpi_uses.proofs.statements.add_line.Given as goal

abbrev pub invariant-each : goal.invariant-each
invariant-each l = line_uses_view l.uses.items ++ map (λ u. (l.line, u)) (uses_view (drop l.name_use-index l.name_use-items)) ≡ line_uses_view l.initial.uses.items ++ map (λ u. (l.line, u)) (uses_view l.name_use-items)
