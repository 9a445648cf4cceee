use Rattle.std.proofs.Common.{◌≡◌, ◌+◌, ◌++◌, drop, flat_map}
use Rattle.acpi_uses.specs.UseViews.{statements_view}
use Rattle.acpi_locals.specs.Lines.{lines_from}
use Rattle.acpi_locals.specs.LocalObjects.{locals_at}
use Rattle.acpi_locals.specs.LocalViews.{local_views}
use Rattle.std.specs.FinMap as finite
use Rattle.acpi_locals.proofs.locals.put_lines.Given as goal

abbrev pub invariant-each : goal.invariant-each
invariant-each l =
    local_views l.found.items
    ++ flat_map (locals_at l.method) (lines_from (l.i + 1) l.method.path l.before (statements_view (drop l.i l.statements)))
    ≡ local_views l.initial.found.items ++ flat_map (locals_at l.method) (lines_from 1 l.method.path finite.empty (statements_view l.statements))
