use Rattle.std.proofs.Common.{◌≡◌, ◌<◌, ℕ, length, None, get_or}
use Rattle.acpi_survey.specs.SurveyOrder.{AllTile}
use Rattle.acpi_entries.specs.EntryBodies.{IsBodyOf}
use Rattle.acpi_entries.proofs.bodies.bodies_of.Given as goal

abbrev pub invariant-each : goal.invariant-each
invariant-each l = record {
  count : length l.bodies.items ≡ l.number;
  each : AllTile l.survey.tables.items → (n : ℕ) → n < l.number
      → IsBodyOf l.survey.reading.walk.entries l.survey.reading.counts l.survey.tables.items l.survey.depth n (get_or l.bodies.items n None);
}
