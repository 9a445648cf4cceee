use Rattle.std.proofs.Common.{refl}
use Rattle.acpi_conditions.proofs.laws.small_tables.Goals as goal

pub returns-clause-both : goal.returns-clause-both
returns-clause-both c = refl

pub returns-clause-scope : goal.returns-clause-scope
returns-clause-scope c = refl

pub returns-clause-thrice : goal.returns-clause-thrice
returns-clause-thrice c = refl

pub returns-clause-refused : goal.returns-clause-refused
returns-clause-refused c = refl

pub returns-clause-later : goal.returns-clause-later
returns-clause-later c = refl

pub returns-clause-earlier : goal.returns-clause-earlier
returns-clause-earlier c = refl

pub returns-clause-broken : goal.returns-clause-broken
returns-clause-broken c = refl

pub returns-clause-returned : goal.returns-clause-returned
returns-clause-returned c = refl

pub returns-clause-between : goal.returns-clause-between
returns-clause-between c = refl

pub returns-clause-second : goal.returns-clause-second
returns-clause-second c = refl

pub returns-clause-rounds : goal.returns-clause-rounds
returns-clause-rounds c = refl

pub returns-clause-field : goal.returns-clause-field
returns-clause-field c = (refl, refl, refl)

pub returns-clause-both_seen : goal.returns-clause-both_seen
returns-clause-both_seen c = refl

pub returns-clause-else_alone : goal.returns-clause-else_alone
returns-clause-else_alone c = refl

pub returns-clause-else_of_lost_if : goal.returns-clause-else_of_lost_if
returns-clause-else_of_lost_if c = refl
