use Rattle.std.proofs.Common.{◌≡◌, ◌++◌, map, drop}
use Rattle.acpi_entries.specs.ConditionViews.{link_views}
use Rattle.acpi_locals.specs.Methods.{link_behind}
use Rattle.acpi_locals.proofs.locals.links_at.Given as goal

abbrev pub invariant-each : goal.invariant-each
invariant-each l = link_views l.links.items ++ map (link_behind l.line.method.now l.line.before.now) (map (λ n. n.now) (drop l.name-index l.name-items))
    ≡ map (link_behind l.line.method.now l.line.before.now) (map (λ n. n.now) l.name-items)
