-- What the turns of the way to an entry say (ACPI 6.5, 5.3 and 19.6).
use Rattle.std.specs.Prelude.{◌≡◌, ◌≢◌, ℕ, List, [], Some, ⊤}
use Rattle.std.specs.List.{AllByRecursion}
use Rattle.acpi_space.specs.Laws.{Among}
use Rattle.acpi_tree.specs.Terms.{TermTree}
use Rattle.acpi_conditions.specs.Entries.{Turn, then_branch, in_round, Entry}
use Rattle.acpi_survey.specs.Reading.{Reading}
use Rattle.acpi_survey.specs.Predefined.{first_reading}
use Rattle.acpi_survey.specs.Surveys.{AreTables}
use Rattle.acpi_survey.specs.declared.machine_survey.SurveyedTable.{SurveyedTable}
use Rattle.acpi_ranges.specs.Laws.{entries_of}
use Rattle.acpi_entries.specs.Condition.{predicate_at, turn_literals}

-- the predicate of an If whose first branch is gone into, and of a While, is there
abbrev pub HasPredicate : List SurveyedTable → Turn → Type 0
HasPredicate ts (then_branch place) = (v : TermTree) × (predicate_at ts place ≡ Some v)
HasPredicate ts (in_round place) = (v : TermTree) × (predicate_at ts place ≡ Some v)
HasPredicate ts _ = ⊤

-- the turn says something, by a literal at least
pub record HasLiterals (ts : List SurveyedTable) (last : Reading) (turn : Turn) : Type 0 where
  pub literals : turn_literals ts last.opened last.walk.entries turn ≢ []
  pub predicate : HasPredicate ts turn

-- So does each turn of the way of each entry behind the predefined ones.
abbrev pub TurnsHaveLiterals : Type 0
TurnsHaveLiterals =
    (depth : ℕ) (last : Reading) (ts : List SurveyedTable) → AreTables depth 0 first_reading ts last
    → (e : Entry) → Among (entries_of last) e → AllByRecursion (HasLiterals ts last) e.way
