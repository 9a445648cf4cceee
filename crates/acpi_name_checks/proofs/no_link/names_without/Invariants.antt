use Rattle.std.proofs.Common.{◌≡◌, ◌++◌, map, drop}
use Rattle.acpi_entries.specs.ConditionViews.{link_views}
use Rattle.acpi_name_checks.specs.NoLinks.{names_without}
use Rattle.acpi_name_checks.proofs.no_link.names_without.Given as goal

abbrev pub invariant-each : goal.invariant-each
invariant-each l = map (λ n. n.now) l.names.items ++ names_without (link_views (drop l.link-index l.links)) ≡ names_without (link_views l.links)
