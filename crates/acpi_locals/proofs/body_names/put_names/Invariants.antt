use Rattle.std.proofs.Common.{◌≡◌, ◌++◌, map, drop}
use Rattle.acpi_uses.specs.UseViews.{uses_view}
use Rattle.acpi_locals.specs.BodyNames.{name_at}
use Rattle.acpi_locals.specs.LocalViews.{name_views}
use Rattle.acpi_locals.proofs.body_names.put_names.Given as goal

abbrev pub invariant-each : goal.invariant-each
invariant-each l =
    name_views l.found.items ++ map (name_at l.line.method.now l.line.number l.line.before.now) (uses_view (drop l.used-index l.used-items))
    ≡ name_views l.initial.found.items ++ map (name_at l.line.method.now l.line.number l.line.before.now) (uses_view l.used-items)
