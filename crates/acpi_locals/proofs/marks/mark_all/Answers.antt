use Rattle.std.proofs.Common.{refl}
use Rattle.acpi_locals.proofs.Rounds.{spread_on, all_spread}
use Rattle.acpi_locals.proofs.marks.mark_all.Goals as goal

pub rounds-preserved : goal.rounds-preserved
rounds-preserved g c = spread_on _ _ _ _ _ _ c.rounds.invariant c.in_ok-mark_round.ensures

pub returns : goal.returns
returns g c = all_spread _ _ _ _ _ c.requires c.rounds.invariant c.in_ok-mark_round.ensures c.if-branch.false
