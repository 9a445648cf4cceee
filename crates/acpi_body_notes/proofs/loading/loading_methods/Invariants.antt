use Rattle.acpi_survey.specs.SurveyOrder.{AllTile}
use Rattle.acpi_body_notes.specs.LoadNotes.{LoadsTables}
use Rattle.acpi_body_notes.proofs.Collecting.{AreBelow}
use Rattle.acpi_body_notes.proofs.loading.loading_methods.Given as goal

-- the numbers so far are those below this one
abbrev pub invariant-each : goal.invariant-each
invariant-each l = AllTile l.survey.tables.items → AreBelow (LoadsTables l.survey) l.number l.found.items
