use Rattle.std.proofs.Common.{◌≡◌, ◌++◌, map, drop}
use Rattle.acpi_entries.specs.EntryLinks.{seen_link}
use Rattle.acpi_entries.specs.ConditionViews.{link_views}
use Rattle.acpi_entries.proofs.links.seen_by_names.Given as goal

abbrev pub invariant-each : goal.invariant-each
invariant-each l = link_views l.links.items ++ map (seen_link l.seen) (map (λ n. n.now) (drop l.name-index l.names)) ≡ map (seen_link l.seen) (map (λ n. n.now) l.names)
