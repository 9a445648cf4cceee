use Rattle.std.proofs.Common.{◌≡◌, ◌≤◌, ◌<◌, ◌-◌, true, length}
use Rattle.acpi_name_checks.proofs.guards.Guards.go_to.Given as goal

abbrev pub invariant-loop-self : goal.invariant-loop-self
invariant-loop-self l = record {
  steps : l.self.steps ≡ l.fn.self.steps;
  scope : l.self.scope ≡ l.fn.self.scope;
  line : l.self.line ≤ l.line;
  here : 0 < l.line → l.self.line ≡ l.line → l.self.is_at_line ≡ true;
}

abbrev pub decreases-loop-self : goal.decreases-loop-self
decreases-loop-self l = length l.self.steps.items - l.self.next
