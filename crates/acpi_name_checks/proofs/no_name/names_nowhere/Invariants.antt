use Rattle.std.proofs.Common.{◌≡◌, take}
use Rattle.acpi_uses.specs.steps.GuardWalks.{found_by}
use Rattle.acpi_locals.specs.LocalViews.{name_views}
use Rattle.acpi_name_checks.specs.NoNames.{lost_names}
use Rattle.acpi_name_checks.specs.Views.{no_name_views}
use Rattle.acpi_name_checks.specs.steps.Adding.{name_of}
use Rattle.acpi_name_checks.specs.steps.NameSets.{HasNamesOf}
use Rattle.acpi_name_checks.proofs.no_name.names_nowhere.Given as goal

abbrev pub invariant-each : goal.invariant-each
invariant-each l = record {
  steps : l.guards.steps ≡ l.initial.guards.steps;
  scope : l.guards.scope ≡ l.initial.guards.scope;
  found : no_name_views l.found.items ≡ lost_names l.initial.guards.scope.now (found_by l.initial.guards.steps.items) (name_views (take l.name-index l.names));
  listed : HasNamesOf name_of l.listed (no_name_views l.found.items);
}
