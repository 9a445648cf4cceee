use Rattle.acpi_locals.specs.steps.Rounds.{IsSpread, unmarked}
use Rattle.acpi_locals.proofs.marks.mark_all.Given as goal

abbrev pub invariant-rounds : goal.invariant-rounds
invariant-rounds g l = IsSpread (g.L.Leads.next l.leads) l.initial.marks l.marks

abbrev pub decreases-rounds : goal.decreases-rounds
decreases-rounds g l = unmarked l.marks
