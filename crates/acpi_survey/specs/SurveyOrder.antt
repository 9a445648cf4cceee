-- What a survey keeps stands in the order of places (ACPI 6.5, 5.2.11 and 20.2.5).
use Rattle.std.specs.Prelude.{ℕ, List, drop, length}
use Rattle.std.specs.List.{AllByRecursion}
use Rattle.std.specs.List.Sorted.{IsNonDecreasingBy}
use Rattle.acpi_name.specs.Names.{Segment}
use Rattle.acpi_conditions.specs.Entries.{Path, Entry}
use Rattle.acpi_outline.specs.Tiling.{Tiles}
use Rattle.acpi_outline.specs.View.{nodes_view}
use Rattle.acpi_survey.specs.Reading.{Reading, AliasSource}
use Rattle.acpi_survey.specs.Predefined.{first_reading, predefined_count}
use Rattle.acpi_pieces.specs.Tables.{code_read}
use Rattle.acpi_survey.specs.Surveys.{AreTables}
use Rattle.acpi_survey.specs.declared.machine_survey.SurveyedTable.{SurveyedTable}
use Rattle.acpi_survey.specs.declared.machine_survey.Survey.{Survey}

-- the nodes of each table tile its code
abbrev pub AllTile : List SurveyedTable → Type 0
AllTile ts = AllByRecursion (λ t. Tiles 0 (length (code_read t.judged)) (nodes_view t.nodes)) ts

-- What is kept of tables that were read has nodes that tile their codes, and the entries of tables stand in the order
-- of their places.
abbrev pub TablesTile : Type 0
TablesTile = (depth number : ℕ) (s last : Reading) (ts : List SurveyedTable)
    → AreTables depth number s ts last → AllTile ts

abbrev pub EntriesStandInOrder : Type 0
EntriesStandInOrder =
    (depth : ℕ) (last : Reading) (ts : List SurveyedTable) → AreTables depth 0 first_reading ts last
    → IsNonDecreasingBy (λ (e : Entry). e.term.place) (drop predefined_count last.walk.entries)

-- So do the Scopes that were entered ..
abbrev pub ScopesStandInOrder : Type 0
ScopesStandInOrder = (depth : ℕ) (last : Reading) (ts : List SurveyedTable)
    → AreTables depth 0 first_reading ts last
    → IsNonDecreasingBy (λ (o : ℕ × Path). o.0) last.opened

-- .. and the Aliases.
abbrev pub AliasesStandInOrder : Type 0
AliasesStandInOrder = (depth : ℕ) (last : Reading) (ts : List SurveyedTable)
    → AreTables depth 0 first_reading ts last
    → IsNonDecreasingBy (λ (s : AliasSource). s.place) last.sources

-- ---- of a survey

-- the nodes of each table tile its code, and the entries of tables, the Scopes that were entered and the Aliases stand
-- in order
pub record IsInOrder (s : Survey) : Type 0 where
  pub tile : AllTile s.tables.items
  pub entries : IsNonDecreasingBy (λ (e : Entry). e.term.place)
      (drop predefined_count s.reading.walk.entries)
  pub opened : IsNonDecreasingBy (λ (o : ℕ × Path). o.0) s.reading.opened
  pub sources : IsNonDecreasingBy (λ (s : AliasSource). s.place) s.reading.sources
