use Rattle.acpi_conservative.proofs.WholeTables.{strict_table_is_read}
use Rattle.acpi_conservative.proofs.ReadTables.{strict_read_is_survey}
use Rattle.acpi_conservative.proofs.laws.strict_read_is_survey.Goals as goal

pub returns-clause-tables : goal.returns-clause-tables
returns-clause-tables c = strict_table_is_read

pub returns-clause-entries : goal.returns-clause-entries
returns-clause-entries c = strict_read_is_survey
