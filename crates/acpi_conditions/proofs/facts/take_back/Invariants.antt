use Rattle.std.proofs.Common.{◌≡◌, length, take}
use Rattle.acpi_conditions.specs.steps.Facts.{IsCertainBy, SameSights, paths_in}
use Rattle.acpi_conditions.proofs.facts.take_back.Given as goal

abbrev pub invariant-loop-slots : goal.invariant-loop-slots
invariant-loop-slots l = record {
  kept : IsCertainBy l.slots l.facts.items;
  sights : SameSights l.fn.slots l.slots;
  paths : paths_in l.slots ≡ paths_in l.fn.slots;
  facts : take l.mark l.facts.items ≡ take l.mark l.fn.facts.items;
}

abbrev pub decreases-loop-slots : goal.decreases-loop-slots
decreases-loop-slots l = length l.facts.items
