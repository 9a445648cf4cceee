-- What a survey keeps of the tables that it reads (ACPI 6.5, 5.2.11, 5.3 and 20.2.5).
use Rattle.std.specs.Prelude.{◌≡◌, ◌&&◌, nat_eq, nat_lt, ℕ, suc, Bool, cond, List, [], ◌∷◌, map, length}
use Rattle.std.specs.Cmp.Lexicographic.{pointwise}
use Rattle.std.specs.List.{starts_with}
use Rattle.acpi_conditions.specs.Entries.{Path, Entry}
use Rattle.acpi_conditions.specs.Met.{numbers_beyond}
use Rattle.acpi_outline.specs.Nodes.{NodeTrees}
use Rattle.acpi_outline.specs.Outline.{IsOutline}
use Rattle.acpi_outline.specs.Rules.{after_all}
use Rattle.acpi_outline.specs.View.{nodes_view}
use Rattle.acpi_pieces.specs.Tables.{IsJudged}
use Rattle.acpi_survey.specs.Reading.{Reading, survey_rules}
use Rattle.acpi_pieces.specs.Tables.{code_read}
use Rattle.acpi_survey.specs.Survey.{at_table, behind_table}
use Rattle.acpi_survey.specs.Predefined.{first_reading}
use Rattle.acpi_survey.specs.declared.machine_survey.SurveyedTable.{SurveyedTable}
use Rattle.acpi_survey.specs.declared.machine_survey.Survey.{Survey}

-- the bytes of each table
abbrev pub bytes_of : List SurveyedTable → List (List ℕ)
bytes_of ts = map (λ t. t.bytes) ts

-- the nodes of each table
abbrev pub nodes_of_each : List SurveyedTable → List NodeTrees
nodes_of_each ts = map (λ t. nodes_view t.nodes) ts

-- behind the nodes of a table, and not behind the table yet
abbrev pub behind_nodes : ℕ → Reading → SurveyedTable → Reading
behind_nodes number s t = after_all survey_rules (at_table number s) (nodes_view t.nodes)

-- A table, of that number and behind what is known, is as it is kept: what of its bytes is read, its nodes, and what its
-- Externals say.
pub record IsTable (depth number : ℕ) (s : Reading) (t : SurveyedTable) : Type 0 where
  pub judged : IsJudged number t.bytes t.judged
  pub outline : IsOutline survey_rules (at_table number s) depth (nodes_view t.nodes)
      (code_read t.judged)
  pub expected : t.expected ≡ (behind_nodes number s t).expected

-- so is each table, behind those before it; and what is known behind them
abbrev pub AreTables : ℕ → ℕ → Reading → List SurveyedTable → Reading → Type 0
AreTables depth number s [] last = last ≡ s
AreTables depth number s (t ∷ ts) last = IsTable depth number s t
    × AreTables depth (suc number) (behind_table (behind_nodes number s t)) ts last

-- The survey of these tables, with this limit: each is kept, as it is read behind those before it.
pub record IsSurvey (depth : ℕ) (tables : List (List ℕ)) (s : Survey) : Type 0 where
  pub kept : bytes_of s.tables.items ≡ tables
  pub limit : s.depth ≡ depth
  pub read : AreTables depth 0 first_reading s.tables.items s.reading

-- ---- entries

-- an entry but for its way
abbrev pub without_way : Entry → Entry
without_way e = record e { way = [] }

-- the numbers of the entries at a path: control that comes by no turns may have met each of them
abbrev pub numbers_at : Path → List Entry → List ℕ
numbers_at p es = numbers_beyond [] p 0 es

-- a path begins with the segments of another, and has more
abbrev pub lies_below : (above : Path) → Path → Bool
lies_below above p = nat_lt (length above) (length p) && starts_with (pointwise nat_eq) p above

-- the numbers of the entries whose path lies below another, of those from a number on
abbrev pub numbers_below : Path → ℕ → List Entry → List ℕ
numbers_below p n [] = []
numbers_below p n (e ∷ es) =
    cond (lies_below p e.path) (n ∷ numbers_below p (suc n) es) (numbers_below p (suc n) es)
