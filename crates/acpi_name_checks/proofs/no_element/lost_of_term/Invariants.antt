use Rattle.std.proofs.Common.{◌≡◌, map, take}
use Rattle.acpi_name.specs.Names.{NameParts}
use Rattle.acpi_uses.specs.UseViews.{uses_view}
use Rattle.acpi_name_checks.specs.NoElements.{lost_elements}
use Rattle.acpi_name_checks.specs.steps.NameSets.{HasNamesOf}
use Rattle.acpi_name_checks.proofs.no_element.lost_of_term.Given as goal

abbrev pub invariant-each : goal.invariant-each
invariant-each l = record {
  names : map (λ n. n.now) l.names.items ≡ lost_elements l.seen (uses_view (take l.used-index l.used-items));
  listed : HasNamesOf (λ (n : NameParts). n) l.listed (map (λ n. n.now) l.names.items);
}
