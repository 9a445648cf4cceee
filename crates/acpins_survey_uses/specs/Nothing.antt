-- Paths at which nothing is declared (ACPI 6.5, 5.3).
use Rattle.std.specs.Prelude.{◌≡◌, [], Option, Some, None}
use Rattle.acpi_conditions.specs.Entries.{Path}
use Rattle.acpi_survey.specs.declared.machine_survey.Survey.{Survey}
use Rattle.acpi_survey.specs.Surveys.{numbers_at, numbers_below}

-- no entry is at the path, and none below it
pub record HasNoEntry (s : Survey) (p : Path) : Type 0 where
  pub at : numbers_at p s.reading.walk.entries ≡ []
  pub below : numbers_below p 0 s.reading.walk.entries ≡ []

-- there is a path, and that is so
abbrev pub HasNothing : Survey → Option Path → Type 0
HasNothing s None = ⊥
HasNothing s (Some p) = HasNoEntry s p
