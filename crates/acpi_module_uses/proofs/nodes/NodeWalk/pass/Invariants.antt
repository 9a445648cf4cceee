use Rattle.std.proofs.Common.{◌≡◌, ◌++◌, drop}
use Rattle.acpi_module_uses.specs.steps.WayViews.{turns_past}
use Rattle.acpi_module_uses.proofs.nodes.NodeWalk.pass.Given as goal

abbrev pub invariant-each : goal.invariant-each
invariant-each l = record {
  turns : l.self.turns.items ++ turns_past (drop l.stop-index l.stops) ≡ l.initial.self.turns.items ++ turns_past l.stops;
  names : l.self.found.items ≡ l.initial.self.found.items;
}
