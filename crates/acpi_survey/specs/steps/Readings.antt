-- How the code keeps what is known while tables are read (ACPI 6.5, 5.3).
use Rattle.std.specs.Prelude.{ℕ, List, map}
use Rattle.std.specs.FinMap as finite
use Rattle.std.specs.Coded.{Coded, coded_ℕ}
use Rattle.acpi_space.specs.Spaces.{PathMap, coded_path}
use Rattle.acpi_conditions.specs.Entries.{Path}
use Rattle.acpi_survey.specs.Reading.{Reading}
use Rattle.acpi_survey.specs.SourceViews.{source_of, unknown_of}
use Rattle.acpi_survey.specs.Survey.{place_in}
use Rattle.acpi_survey.specs.declared.remarks.OpenedScope.{OpenedScope}
use Rattle.acpi_survey.specs.declared.reading.Reading.TheInside.{Inside}

-- the Scopes that were entered, as the code keeps them
abbrev pub opened_pairs : List OpenedScope → List (ℕ × Path)
opened_pairs os = map (λ o. (o.place, o.path)) os

abbrev pub reading_of : Inside → Reading
reading_of s =
    record {
      walk = s.walk;
      base = place_in s.table 0;
      counts = s.counts.items;
      expected = s.expected;
      opened = opened_pairs s.remarks.opened.items;
      sources =
          map source_of s.remarks.sources.items;
      unknown = map unknown_of s.remarks.unknown.items;
    }

abbrev pub expected_code : Coded (PathMap ℕ)
expected_code = finite.code coded_path coded_ℕ
