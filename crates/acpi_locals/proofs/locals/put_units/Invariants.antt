use Rattle.std.proofs.Common.{◌≡◌, ◌++◌, map, drop}
use Rattle.acpi_tree.specs.TermView.{decl_view}
use Rattle.acpi_tree.specs.View.{fields_view}
use Rattle.acpi_locals.specs.Declaring.{declared_units}
use Rattle.acpi_locals.specs.LocalObjects.{local_at}
use Rattle.acpi_locals.specs.LocalViews.{local_views}
use Rattle.acpi_locals.specs.steps.LineViews.{line_at}
use Rattle.acpi_locals.proofs.locals.put_units.Given as goal

abbrev pub invariant-each : goal.invariant-each
invariant-each l =
    local_views l.found.items
    ++ map (local_at l.line.method.now (line_at l.line (decl_view l.decl))) (declared_units l.line.method.now.path (decl_view l.decl) l.offset (fields_view (drop l.element-index l.element-items)))
    ≡ local_views l.initial.found.items
    ++ map (local_at l.line.method.now (line_at l.line (decl_view l.decl))) (declared_units l.line.method.now.path (decl_view l.decl) 0 (fields_view l.element-items))
