use Rattle.std.proofs.Common.{◌≡◌, ◌++◌, drop}
use Rattle.acpi_uses.specs.UseViews.{names_view}
use Rattle.acpi_uses.specs.steps.GuardWalks.{found_by, shown_by}
use Rattle.acpi_uses.proofs.guards.GuardWalk.show.Given as goal

abbrev pub invariant-each : goal.invariant-each
invariant-each l = record {
  statements : found_by l.self.steps.items ≡ found_by l.initial.self.steps.items;
  names : shown_by l.self.steps.items ++ names_view (drop l.name-index l.name-items) ≡ shown_by l.initial.self.steps.items ++ names_view l.name-items;
}
