use Rattle.std.proofs.Common.{◌≡◌, ◌++◌, map, drop, Some}
use Rattle.acpi_entries.specs.ConditionViews.{link_view}
use Rattle.acpi_use_list.specs.Uses.{use_at}
use Rattle.acpi_use_list.proofs.uses.put_uses.Given as goal

-- the uses so far, and those at the paths that are left
abbrev pub invariant-each : goal.invariant-each
invariant-each l =
    l.found.items ++ map (use_at (link_view l.link) l.role l.site) (map Some (drop l.path-index l.path-items))
    ≡ l.initial.found.items ++ map (use_at (link_view l.link) l.role l.site) (map Some l.path-items)
