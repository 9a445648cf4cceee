-- Which objects the entries of tables are (ACPI 6.5, 5.3 and 20.2.5).
use Rattle.std.specs.Prelude.{◌≡◌, ℕ, List, Some}
use Rattle.acpi_space.specs.Laws.{Among}
use Rattle.acpi_conditions.specs.Nodes.{no_nodes, declares}
use Rattle.acpi_conditions.specs.Entries.{Entry}
use Rattle.acpi_survey.specs.Reading.{Reading}
use Rattle.acpi_survey.specs.Predefined.{first_reading}
use Rattle.acpi_survey.specs.Surveys.{AreTables}
use Rattle.acpi_survey.specs.declared.machine_survey.SurveyedTable.{SurveyedTable}
use Rattle.acpi_ranges.specs.Lookup.{Found}
use Rattle.acpi_ranges.specs.EntryParts.{part_in}
use Rattle.acpi_ranges.specs.Laws.{part_does, entries_of}
use Rattle.acpi_kinds.specs.Objects.{ObjectParts}
use Rattle.acpi_objects.specs.Declaring.{object_in}

-- the part at the place of the entry's term declares the term, and an object
pub record HasObject (ts : List SurveyedTable) (e : Entry) : Type 0 where
  pub part : Found
  pub stands : part_in ts e.term.place ≡ Some part
  pub declares_term : part_does e.term.place part ≡ declares e.term no_nodes no_nodes
  pub object : ObjectParts
  pub is_object : object_in part ≡ Some object

-- So is each entry behind the predefined ones.
abbrev pub EntriesHaveObjects : Type 0
EntriesHaveObjects =
    (depth : ℕ) (last : Reading) (ts : List SurveyedTable) → AreTables depth 0 first_reading ts last
    → (e : Entry) → Among (entries_of last) e → HasObject ts e
