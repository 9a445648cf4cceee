-- What a caller of the library lends, and what stands in its arrays then (docs/LIBRARY.md).
use Rattle.std.specs.Prelude.{◌≡◌, ◌≤◌, ℕ, List, ◌++◌, map, length, drop}
use Rattle.acpins_lent.specs.declared.outcomes.SurveyOutcome.{SurveyOutcome}
use Rattle.acpins_lent.specs.declared.tables.LentTable.{LentTable}

-- the bytes of lent tables
abbrev pub bytes_of : List LentTable → List (List ℕ)
bytes_of tables = map (λ t. t.bytes.now) tables

-- items stand at the front of an array, and what is behind them stays
abbrev pub IsFront : {A : Type 0} → (items old new : List A) → Type 0
IsFront items old new = (length items ≤ length old) × (new ≡ items ++ drop (length items) old)

-- nothing is counted
abbrev pub no_survey_outcome : SurveyOutcome
no_survey_outcome = record {
  tables = 0;
  entries = 0;
  literals = 0;
  targets = 0;
  parts = 0;
  problems = 0;
  notes = 0;
  text = 0;
  bytes = 0;
  is_faulty = 0;
}
