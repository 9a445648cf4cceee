use Rattle.std.proofs.Common.{drop}
use Rattle.acpi_survey.proofs.Surveys.{Kept}
use Rattle.acpi_survey.proofs.table_reader.survey.Given as goal

abbrev pub invariant-each : goal.invariant-each
invariant-each l = Kept l.depth l.read.items l.reading (drop l.bytes-index l.tables) l.tables
