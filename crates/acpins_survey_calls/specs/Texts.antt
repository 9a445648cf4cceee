-- Texts of a survey in the array of a caller (docs/LIBRARY.md).
use Rattle.std.specs.Prelude.{◌≡◌, ◌<◌, ℕ, List, Some, length}
use Rattle.acpi_findings.specs.declared.findings.Findings.{Findings}
use Rattle.acpi_survey.specs.Surveys.{IsSurvey}
use Rattle.acpi_survey.specs.declared.machine_survey.Survey.{Survey}
use Rattle.acpins_lent.specs.Lent.{IsFront}
use Rattle.acpins_lent.specs.declared.outcomes.SurveyOutcome.{SurveyOutcome}
use Rattle.acpins_survey_words.specs.Words.{Command}
use Rattle.acpins_survey_texts.specs.Texts.{AreFindings, HasNothingAt, IsTextOf, TellsProblems}
use Rattle.acpins_survey_calls.specs.Asked.{command_of}

-- the text that a command makes of these tables, and how much is found in them
pub record IsTextOfTables (depth : ℕ) (tables : List (List ℕ)) (command : Command) (text : List ℕ)
    (outcome : SurveyOutcome) : Type 0 where
  pub survey : Survey
  pub is : IsSurvey depth tables survey
  pub findings : Findings
  pub told : AreFindings survey findings
  pub made : IsTextOf command survey findings text
  pub problems : outcome.problems ≡ length findings.problems.items
  pub notes : outcome.notes ≡ length findings.notes.items
  pub count : outcome.text ≡ length text
  pub faulty : TellsProblems command findings outcome.is_faulty

-- the text of a number stands at the front of the array
pub record IsTextWritten (depth : ℕ) (tables : List (List ℕ)) (what : ℕ) (path old new : List ℕ)
    (outcome : SurveyOutcome) : Type 0 where
  pub command : Command
  pub asks : command_of what path ≡ Some command
  pub text : List ℕ
  pub is : IsTextOfTables depth tables command text outcome
  pub written : IsFront text old new

-- .. has no room there
pub record NeedsTextRoom (depth : ℕ) (tables : List (List ℕ)) (what : ℕ) (path old : List ℕ)
    (outcome : SurveyOutcome) : Type 0 where
  pub command : Command
  pub asks : command_of what path ≡ Some command
  pub text : List ℕ
  pub is : IsTextOfTables depth tables command text outcome
  pub short : length old < length text

-- these tables have nothing at the path that the number asks for
abbrev pub HasNothingThere : ℕ → List (List ℕ) → ℕ → List ℕ → Type 0
HasNothingThere depth tables what path = (command : Command) × (command_of what path ≡ Some command)
    × (s : Survey) × IsSurvey depth tables s × HasNothingAt command s
