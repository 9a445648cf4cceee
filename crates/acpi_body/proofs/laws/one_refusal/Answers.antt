use Rattle.acpi_body.proofs.ReadBodies.{one_refusal, read_or_refused, returns_no_value}
use Rattle.acpi_body.proofs.laws.one_refusal.Goals as goal

pub returns-clause-one : goal.returns-clause-one
returns-clause-one c = one_refusal

pub returns-clause-some : goal.returns-clause-some
returns-clause-some c = read_or_refused

pub returns-clause-example : goal.returns-clause-example
returns-clause-example c = returns_no_value
