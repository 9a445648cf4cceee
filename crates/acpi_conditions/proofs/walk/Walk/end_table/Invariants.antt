use Rattle.std.proofs.Common.{◌≡◌, ◌≤◌, ◌++◌, drop}
use Rattle.std.specs.List.{flat_map}
use Rattle.acpi_conditions.specs.Survey.{lasting}
use Rattle.acpi_conditions.specs.steps.Moves.{at_start, with_certain}
use Rattle.acpi_conditions.proofs.walk.Walk.end_table.Given as goal

abbrev pub invariant-loop-number : goal.invariant-loop-number
invariant-loop-number l = record {
  first : l.first ≤ l.number;
  walk : l.self ≡ with_certain (flat_map lasting (drop l.number l.fn.self.entries) ++ l.fn.self.start.known.certain) (at_start l.fn.self);
}

abbrev pub decreases-loop-number : goal.decreases-loop-number
decreases-loop-number l = l.number
