use Rattle.std.proofs.Common.{◌≡◌, map, take}
use Rattle.acpi_conditions.specs.Known.{candidates, is_certain_name}
use Rattle.acpi_conditions.specs.Views.{seen_by}
use Rattle.acpi_conditions.proofs.seen.links_of.Given as goal

abbrev pub invariant-loop-name : goal.invariant-loop-name
invariant-loop-name l = record {
  paths : map (λ c. c.paths.items) l.links.items ≡ map (candidates (seen_by l.seen) l.seen.entry.scope) (take l.name-index l.names);
  certain : map (λ c. c.is_certain) l.links.items ≡ map (is_certain_name (seen_by l.seen) l.seen.entry.scope) (take l.name-index l.names);
}
