use Rattle.acpi_locals.specs.steps.Rounds.{IsRound}
use Rattle.acpi_locals.proofs.marks.mark_round.Given as goal

abbrev pub invariant-each : goal.invariant-each
invariant-each g l = IsRound (g.L.Leads.next l.leads) l.initial.marks l.number l.marks l.changed
