-- What a run answers to a page.
use Rattle.std.specs.Prelude.{◌≡◌, ◌⊎◌, ◌<◌, ◌++◌, ℕ, List, Option, Some, None, length, drop, map}
use Rattle.std.specs.List.{All}
use Rattle.std.specs.Str.{IsUtf8}
use Rattle.acpins_io.specs.Outputs.{FileBytes}
use Rattle.acpins_words.specs.Words.{Text}
use Rattle.acpins_survey_words.specs.Words.{Invocation, invocation_of}
use Rattle.acpins_survey_run.specs.FailureLines.{failure_line}
use Rattle.acpins_survey_run.specs.Failures.{status_of}
use Rattle.acpins_survey_run.specs.Folders.{FolderNames}
use Rattle.acpins_survey_run.specs.Input.{LastErrors}
use Rattle.acpins_survey_run.specs.Runs.{IsMadeOf, IsRunFailure, text_file}
use Rattle.acpins_survey_run.specs.declared.failure.Failure.{Failure}
use Rattle.acpins_survey_texts.specs.Texts.{HasNothingIn, IsMade}
use Rattle.acpins_browser.specs.declared.records.LentText.{LentText}

-- the arguments as texts
abbrev pub arguments_in : List LentText → List Text
arguments_in arguments = map (λ a. a.bytes.now) arguments

-- one of them is not UTF-8
abbrev pub AreNotTexts : List Text → Type 0
AreNotTexts arguments = All IsUtf8 arguments → ⊥

-- of the files and folders that are lent it is known what they hold
module _ (files : FileBytes) (folders : FolderNames) where
  -- the text that these arguments ask for, with this status
  abbrev pub IsMadeHere : Invocation → ℕ → List ℕ → Type 0
  IsMadeHere = IsMadeOf files folders IsMade

  -- What is given of an invocation: the text that it prints, with its status; or that which it writes to a file, with the status
  -- of such a run.
  abbrev pub IsGivenOf : Option Text → Invocation → ℕ → List ℕ → Type 0
  IsGivenOf None asked status text = IsMadeHere asked status text
  IsGivenOf (Some out) asked status text =
      ((made : List ℕ) × IsMadeHere asked status made)
      × ((other : ℕ) × IsMadeHere asked other text)

  -- what a run that doesn't fail gives
  pub record IsGiven (arguments : List Text) (status : ℕ) (text : List ℕ) : Type 0 where
    pub asked : Invocation
    pub asks : invocation_of arguments ≡ Some asked
    pub is : IsGivenOf (text_file asked) asked status text

  -- the line of a failure, or a beginning of it
  pub record IsFailed (arguments : List Text) (status : ℕ) (text : List ℕ) : Type 0 where
    pub failure : Failure
    pub errors : LastErrors
    pub true_of : IsRunFailure files folders IsMade HasNothingIn errors arguments failure
    pub status_is : status ≡ status_of failure
    pub rest : List ℕ
    pub line : failure_line failure ≡ text ++ rest

  -- what a run answers
  abbrev pub IsAnswer : List Text → ℕ → List ℕ → Type 0
  IsAnswer arguments status text = IsGiven arguments status text ⊎ IsFailed arguments status text

-- ---- into the room of a page

-- such a text stands at the front of the room, and the number of its bytes is told
pub record IsPut (P : List ℕ → Type 0) (old new : List ℕ) (count : ℕ) : Type 0 where
  pub text : List ℕ
  pub is : P text
  pub count_is : count ≡ length text
  pub put : new ≡ text ++ drop (length text) old

-- there is such a text, of more bytes than the room has
pub record NeedsRoom (P : List ℕ → Type 0) (old : List ℕ) (count : ℕ) : Type 0 where
  pub text : List ℕ
  pub is : P text
  pub count_is : count ≡ length text
  pub short : length old < length text
