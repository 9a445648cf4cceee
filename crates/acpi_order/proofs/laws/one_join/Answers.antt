use Rattle.acpi_order.proofs.Told.{one_join_of, agreeing_have_join, joined_all_agree}
use Rattle.acpi_order.proofs.laws.one_join.Goals as goal

pub returns-clause-one : goal.returns-clause-one
returns-clause-one c = one_join_of

pub returns-clause-agreeing : goal.returns-clause-agreeing
returns-clause-agreeing c = agreeing_have_join

pub returns-clause-joined : goal.returns-clause-joined
returns-clause-joined c = joined_all_agree
