-- The bodies of the methods of a survey (ACPI 6.5, 20.2.5.2).
use Rattle.std.specs.Prelude.{◌≡◌, ◌<◌, ℕ, List, length, Option, None, slice_index_or}
use Rattle.acpi_entries.specs.EntryBodies.{IsBodyOf}
use Rattle.acpi_entries.specs.declared.body.MethodBody.{MethodBody}
use Rattle.acpi_survey.specs.declared.machine_survey.Survey.{Survey}

-- each is the body of the entry of its number; None where that is no method of a table
pub record AreBodies (s : Survey) (bodies : List (Option MethodBody)) : Type 0 where
  pub count : length bodies ≡ length s.reading.walk.entries
  pub each : (n : ℕ) → n < length bodies
      → IsBodyOf s.reading.walk.entries s.reading.counts s.tables.items s.depth n
      (slice_index_or bodies n None)
