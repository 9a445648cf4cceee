-- What the entries of a survey say of a run of its tables (ACPI 6.5, 5.3).
use Rattle.std.specs.Prelude.{◌≡◌, ◌⊎◌, ◌<◌, ℕ, not, IsTrue, List, [], drop, Some}
use Rattle.std.specs.List.{list_any}
use Rattle.acpi_space.specs.Laws.{Among}
use Rattle.acpi_conditions.specs.Nodes.{Term, Nodes}
use Rattle.acpi_conditions.specs.Entries.{Path, Entry, Refusal}
use Rattle.acpi_conditions.specs.Known.{IsTrueOf}
use Rattle.acpi_conditions.specs.Links.{is_round}
use Rattle.acpi_conditions.specs.Runs.{State, AreRuns}
use Rattle.acpi_conditions.specs.Laws.{IsSure, AreSure, StandsExactly}
use Rattle.acpi_survey.specs.Predefined.{first_reading, predefined_count}
use Rattle.acpi_survey.specs.Survey.{place_in, all_nodes}
use Rattle.acpi_survey.specs.Surveys.{nodes_of_each, IsSurvey}
use Rattle.acpi_survey.specs.declared.machine_survey.Survey.{Survey}

-- the entries of the tables: those behind the predefined objects
abbrev pub table_entries : Survey → List Entry
table_entries s = drop predefined_count s.reading.walk.entries

-- a run of the tables, one after another, from a state in which the predefined objects stand and no others
pub record IsRunOfTables (s : Survey) (S S' : State) : Type 0 where
  pub predefined : IsTrueOf S.objects first_reading.walk.known
  pub nothing_yet : (S.events ≡ []) × (S.turns ≡ []) × (S.stop_places ≡ [])
  pub run : AreRuns (all_nodes 0 (nodes_of_each s.tables.items)) S S'

-- in the first of the tables, so many, no Scope is refused as one of several
abbrev pub AreSureWithin : (count : ℕ) → List Refusal → Type 0
AreSureWithin count rs = (r : Refusal) → Among rs r → r.place < place_in count 0 → IsSure r.why

-- So an entry of these tables that stands outside of Whiles says exactly in which runs its object stands at the end.
abbrev pub EntriesStandExactly : Type 0
EntriesStandExactly = (depth : ℕ) (bytes : List (List ℕ)) (s : Survey) (S S' : State)
    → IsSurvey depth bytes s → IsRunOfTables s S S'
    → (count : ℕ) → AreSureWithin count s.reading.walk.refused
    → (e : Entry) → Among (table_entries s) e → e.term.place < place_in count 0
    → IsTrue (not (list_any is_round e.way)) → StandsExactly S' e

-- and each object that stands at the end is a predefined one, or that of an entry
abbrev pub ObjectsAreEntries : Type 0
ObjectsAreEntries = (depth : ℕ) (bytes : List (List ℕ)) (s : Survey) (S S' : State)
    → IsSurvey depth bytes s → IsRunOfTables s S S' → AreSure s.reading.walk.refused
    → (p : Path) (t : Term) → S'.objects p ≡ Some t
    → (S.objects p ≡ Some t)
    ⊎ ((e : Entry) × Among (table_entries s) e × (e.path ≡ p) × (e.term ≡ t))
