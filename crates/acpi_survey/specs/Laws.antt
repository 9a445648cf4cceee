-- What the reading of tables gives (ACPI 6.5, 5.3 and 20.2.5).
use Rattle.std.specs.Prelude.{◌≡◌, ◌≢◌, ◌⊎◌, ◌||◌, ℕ, List, ◌++◌, drop, not, IsTrue, Option, Some, None, slice_get, slice_index_or}
use Rattle.std.specs.List.{flat_map, list_any}
use Rattle.acpi_name.specs.Names.{NameParts}
use Rattle.acpi_space.specs.Lookups.{is_defined_in}
use Rattle.acpi_space.specs.Search.{answer}
use Rattle.acpi_space.specs.Spaces.{PathMap, is_defined}
use Rattle.acpi_space.specs.Laws.{Among}
use Rattle.acpi_body.specs.Arguments.{Locals}
use Rattle.acpi_outline.specs.Nodes.{NodeTrees}
use Rattle.acpi_conditions.specs.Nodes.{places}
use Rattle.acpi_conditions.specs.Entries.{Path, Namespace, Entry, Refusal}
use Rattle.acpi_conditions.specs.Links.{is_round}
use Rattle.acpi_conditions.specs.Runs.{State}
use Rattle.acpi_conditions.specs.Survey.{known_behind, surveys, all_entries, all_refused}
use Rattle.acpi_conditions.specs.Walk.{Walk, started}
use Rattle.acpi_conditions.specs.Laws.{AreDistinct, IsRunOf, IsReached}
use Rattle.acpi_survey.specs.Bodies.{entry_count}
use Rattle.acpi_survey.specs.Reading.{Reading}
use Rattle.acpi_survey.specs.Predefined.{first_reading, predefined_count}
use Rattle.acpi_survey.specs.Survey.{AreRead, all_nodes}

-- the entries and refusals of the tables are those of the surveys of what their nodes do, and so is what is known
-- behind them
pub record IsSurveyed (number : ℕ) (s last : Reading) (nss : List NodeTrees) : Type 0 where
  pub entries : last.walk.entries
      ≡ s.walk.entries ++ all_entries (surveys s.walk.known (all_nodes number nss))
  pub refused : last.walk.refused
      ≡ s.walk.refused ++ all_refused (surveys s.walk.known (all_nodes number nss))
  pub known : last.walk.known ≡ known_behind s.walk.known (all_nodes number nss)

-- at the start of a table
abbrev pub IsAtStart : Walk → Type 0
IsAtStart w = started w ≡ w

abbrev pub ReadIsSurvey : Type 0
ReadIsSurvey = (depth number : ℕ) (s last : Reading) (tables : List (List ℕ)) (nss : List NodeTrees)
    → IsAtStart s.walk → AreRead depth number s tables nss last
    → IsSurveyed number s last nss

-- no two nodes of tables stand at one place
abbrev pub PlacesAreDistinct : Type 0
PlacesAreDistinct = (depth number : ℕ) (s last : Reading) (tables : List (List ℕ))
    (nss : List NodeTrees) → AreRead depth number s tables nss last
    → AreDistinct (flat_map places (all_nodes number nss))

-- at each place stands one of these entries or refusals at most
pub record StandAlone (es : List Entry) (rs : List Refusal) : Type 0 where
  pub one : (e f : Entry) → Among es e → Among es f → e.term.place ≡ f.term.place → e ≡ f
  pub none : (e : Entry) (r : Refusal) → Among es e → Among rs r → e.term.place ≢ r.place

-- so stand those of tables
abbrev pub EntriesStandAlone : Type 0
EntriesStandAlone = (depth : ℕ) (last : Reading) (tables : List (List ℕ)) (nss : List NodeTrees)
    → AreRead depth 0 first_reading tables nss last
    → StandAlone (drop predefined_count last.walk.entries) last.walk.refused

-- ---- there is one reading

-- Any tables have a reading.
abbrev pub TablesAreRead : Type 0
TablesAreRead = (depth number : ℕ) (s : Reading) (tables : List (List ℕ))
    → (nss : List NodeTrees) × (last : Reading) × AreRead depth number s tables nss last

-- They have one alone: what is known behind them is the same, entries and refusals among it, and so are the nodes.
abbrev pub AtMostOneReading : Type 0
AtMostOneReading = (depth number : ℕ) (s last other : Reading) (tables : List (List ℕ))
    (nss mss : List NodeTrees) → AreRead depth number s tables nss last
    → AreRead depth number s tables mss other
    → (nss ≡ mss) × (last ≡ other)

-- each reading of the tables, from the first, has these nodes and this end
abbrev pub IsOnlyReading : ℕ → List (List ℕ) → List NodeTrees → Reading → Type 0
IsOnlyReading depth tables nss last = (mss : List NodeTrees) (other : Reading)
    → AreRead depth 0 first_reading tables mss other → (nss ≡ mss) × (last ≡ other)

-- ---- counts in bodies

-- an entry declared what stands at the path, and has this count
pub record HasCountAt (objects : Namespace) (last : Reading) (p : Path) (n : ℕ) : Type 0 where
  pub number : ℕ
  pub entry : Entry
  pub is_numbered : slice_get last.walk.entries number ≡ Some entry
  pub path : entry.path ≡ p
  pub declared : objects p ≡ Some entry.term
  pub count : slice_index_or last.counts number None ≡ Some n

-- A count of a name in the body of an entry, where it is sure, holds in each run in which control came to the entry,
-- outside of Whiles: what the name finds at the end is declared by the body before, or by an entry with this count.
abbrev pub SureCountsHold : Type 0
SureCountsHold = (depth : ℕ) (tables : List (List ℕ)) (nss : List NodeTrees) (last : Reading)
    → AreRead depth 0 first_reading tables nss last
    → (S S' : State) → IsRunOf first_reading.walk.known (all_nodes 0 nss) S S'
    → (e : Entry) → Among (all_entries (surveys first_reading.walk.known (all_nodes 0 nss))) e
    → IsTrue (not (list_any is_round e.way)) → IsReached S' e
    → (expected : PathMap ℕ) (locals : Locals) (name : NameParts) (n : ℕ)
    → entry_count last.walk.entries last.counts expected e locals name ≡ Some n
    → (p : Path)
    → answer (λ q. is_defined locals q || is_defined_in S'.objects q) e.path name ≡ Some p
    → (IsTrue (is_defined locals p) × (n ≡ 0)) ⊎ HasCountAt S'.objects last p n
