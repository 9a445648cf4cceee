use Rattle.acpi_terms.proofs.OneRefusal.{one_refusal, spelled_or_refused}
use Rattle.acpi_terms.proofs.laws.one_refusal.Goals as goal

pub returns-clause-one : goal.returns-clause-one
returns-clause-one c = one_refusal

pub returns-clause-exists : goal.returns-clause-exists
returns-clause-exists c = spelled_or_refused
