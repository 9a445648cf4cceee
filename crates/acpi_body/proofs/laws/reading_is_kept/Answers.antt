use Rattle.acpi_body.proofs.Kept.{kept_statements, spelled_statements, same_readings}
use Rattle.acpi_body.proofs.laws.reading_is_kept.Goals as goal

pub returns-clause-kept : goal.returns-clause-kept
returns-clause-kept c = λ a b. kept_statements a b

pub returns-clause-spelled : goal.returns-clause-spelled
returns-clause-spelled c = spelled_statements

pub returns-clause-same : goal.returns-clause-same
returns-clause-same c = same_readings
