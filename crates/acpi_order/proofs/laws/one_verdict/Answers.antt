use Rattle.acpi_order.proofs.Verdicts.{one_verdict, commute_is_independent, no_ssdts_commute}
use Rattle.acpi_order.proofs.laws.one_verdict.Goals as goal

pub returns-clause-one : goal.returns-clause-one
returns-clause-one c = one_verdict

pub returns-clause-commute : goal.returns-clause-commute
returns-clause-commute c = commute_is_independent

pub returns-clause-none : goal.returns-clause-none
returns-clause-none c = no_ssdts_commute
