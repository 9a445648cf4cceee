-- What a run prints and says, and why it prints nothing.
use Rattle.std.specs.Prelude.{◌≡◌, ◌≢◌, ◌⊎◌, ℕ, List, [], ◌∷◌, Option, Some, None}
use Rattle.acpi_name.specs.Text.{IsPathText}
use Rattle.acpins_io.specs.Outputs.{FileBytes, GetsBeginning, IsHeldIn, printed_of}
use Rattle.acpins_words.specs.Words.{Text}
use Rattle.acpins_survey_words.specs.Words.{Asked, Command, Invocation, differing, showing, using, paging, survey, invocation_of}
use Rattle.acpins_survey_run.specs.FailureLines.{failure_line, printed_name}
use Rattle.acpins_survey_run.specs.Failures.{status_of}
use Rattle.acpins_survey_run.specs.Folders.{FolderNames}
use Rattle.acpins_survey_run.specs.Input.{AreFilesOf, AreTablesOfFiles, IsInputFault, LastErrors}
use Rattle.acpins_survey_run.specs.Machines.{Machines}
use Rattle.acpins_survey_run.specs.Stored.{IsSpared, IsUnspared}
use Rattle.acpins_survey_run.specs.declared.failure.Failure.{Failure}
use Rattle.acpins_survey_run.specs.declared.failure.Failure.TheVariants.{WrongArguments, BadPath, NoSuchPath, HoldsTables, Out, Output, Memory}

-- which text, with which status, a command makes of the tables of machines that are read to a depth
abbrev pub Makes : Type 1
Makes = Command → ℕ → Machines → ℕ → List ℕ → Type 0

-- whether no object may be at the path that the word of a command spells
abbrev pub HasNothing : Type 1
HasNothing = Command → ℕ → Machines → Type 0

-- the word that stands as PATH of a command: of `show` and of `uses`
abbrev pub path_word : Command → Option Text
path_word (showing word) = Some word
path_word (using word) = word
path_word _ = None

-- the file to which a command writes its text, which is then not printed: that of `html`
abbrev pub page_file : Command → Option Text
page_file (paging out) = Some out
page_file _ = None

abbrev pub text_file : Invocation → Option Text
text_file (survey asked) = page_file asked.command
text_file _ = None

-- the arguments that stand for the files of the machine that a command is over; of `diff` for those of the first ..
abbrev pub first_names : Command → List Text → List Text
first_names (differing is_verbose) (old ∷ new ∷ []) = old ∷ []
first_names _ names = names

-- .. and for those of the second, if there are two
abbrev pub second_names : Command → List Text → Option (List Text)
second_names (differing is_verbose) (old ∷ new ∷ []) = Some (new ∷ [])
second_names _ names = None

-- the arguments stand for the files of one of the machines
abbrev pub AreNamesOf : Asked → List Text → Type 0
AreNamesOf asked names = (names ≡ first_names asked.command asked.files)
    ⊎ (second_names asked.command asked.files ≡ Some names)

-- the file that is written is none of these, and holds no tables
abbrev pub AreSpared : FileBytes → Option Text → List (List ℕ) → Type 0
AreSpared bytes_of (Some out) files = IsSpared bytes_of files out
AreSpared bytes_of None files = Unit {0}

-- of files and of folders it may be known what they hold
module _ (files : FileBytes) (folders : FolderNames) where
  -- the tables of the files that these arguments stand for, none of which is written
  pub record AreTablesOf (asked : Asked) (names : List Text) (tables : List (List ℕ)) : Type 0
    where
      pub sources : List (List ℕ)
      pub of_arguments : AreFilesOf folders names sources
      pub spared : AreSpared files (page_file asked.command) sources
      pub are : AreTablesOfFiles files asked.hex sources tables

  -- .. if there are such arguments
  abbrev pub AreTablesIfAny : Asked → Option (List Text) → Option (List (List ℕ)) → Type 0
  AreTablesIfAny asked (Some names) (Some tables) = AreTablesOf asked names tables
  AreTablesIfAny asked None None = Unit {0}
  AreTablesIfAny asked _ _ = ⊥

  -- the tables of the machine that a command is over, or of two
  pub record AreMachinesOf (asked : Asked) (machines : Machines) : Type 0 where
    pub first : AreTablesOf asked (first_names asked.command asked.files) machines.first
    pub second : AreTablesIfAny asked (second_names asked.command asked.files) machines.second

  module _ (makes : Makes) where
    -- the text of an invocation, and the status: of tables 0, or 3 where the command finds something wrong in them
    abbrev pub IsMadeOf : Invocation → ℕ → List ℕ → Type 0
    IsMadeOf (survey asked) status text = ((status ≡ 0) ⊎ (status ≡ 3))
        × (machines : Machines) × AreMachinesOf asked machines
        × makes asked.command asked.depth machines status text
    IsMadeOf _ status text = status ≡ 0

    -- what is printed, and the status with which the run ends then
    abbrev pub IsOutput : List Text → ℕ → List ℕ → Type 0
    IsOutput words status text =
        (asked : Invocation) × (made : List ℕ) × (invocation_of words ≡ Some asked)
        × IsMadeOf asked status made × (text ≡ printed_of (text_file asked) made)

    -- what is written to files: to none that was read, since what is made of tables spares them
    abbrev pub StoresOutput : List Text → FileBytes → FileBytes → Type 0
    StoresOutput words old new = (asked : Invocation) × (status : ℕ) × (made : List ℕ)
        × (invocation_of words ≡ Some asked) × IsMadeOf asked status made
        × IsHeldIn (text_file asked) made old new

    -- a failure leaves all files as they were; where standard output can't be written, all else is done
    abbrev pub LeavesFiles : List Text → Failure → FileBytes → FileBytes → Type 0
    LeavesFiles words Output old new = StoresOutput words old new
    LeavesFiles words failure old new = new ≡ old

    -- why what a survey asks for can't be made: its word, which is printed so, spells no path; no object may be there;
    -- the file to which it writes is one of those that are read, or holds tables; that file is said not to be written;
    -- or the tables aren't had
    abbrev pub IsFailureOf : HasNothing → LastErrors → Asked → Failure → Type 0
    IsFailureOf has_nothing last asked (BadPath printed) = (word : Text)
        × (path_word asked.command ≡ Some word) × ¬ IsPathText word
        × (printed.items ≡ printed_name word)
    IsFailureOf has_nothing last asked NoSuchPath = (machines : Machines)
        × AreMachinesOf asked machines × has_nothing asked.command asked.depth machines
    IsFailureOf has_nothing last asked (HoldsTables printed) =
        (names : List Text) × AreNamesOf asked names
        × (out : Text) × (sources : List (List ℕ)) × (page_file asked.command ≡ Some out)
        × (printed.items ≡ printed_name out)
        × AreFilesOf folders names sources × IsUnspared files sources out
    IsFailureOf has_nothing last asked (Out printed kind) =
        (out : Text) × (status : ℕ) × (text : List ℕ) × (page_file asked.command ≡ Some out)
        × (printed.items ≡ printed_name out)
        × IsMadeOf (survey asked) status text
    IsFailureOf has_nothing last asked Memory = Unit {0}
    IsFailureOf has_nothing last asked failure = (names : List Text) × AreNamesOf asked names
        × IsInputFault files folders last asked.hex names failure

    -- why a run fails: the words ask for nothing; or what they ask for can't be made, or can't be written
    abbrev pub IsRunFailure : HasNothing → LastErrors → List Text → Failure → Type 0
    IsRunFailure has_nothing last words (WrongArguments text) = invocation_of words ≡ None
    IsRunFailure has_nothing last words Memory = Unit {0}
    IsRunFailure has_nothing last words Output =
        (status : ℕ) × (text : List ℕ) × IsOutput words status text
    IsRunFailure has_nothing last words failure = (asked : Asked)
        × (invocation_of words ≡ Some (survey asked)) × IsFailureOf has_nothing last asked failure

    -- A run ends with the status of such a failure, and its line is said. Standard output is as it was; if it was that
    -- which could not be written, it got a beginning of what the words ask for. What was written to files is as
    -- `LeavesFiles` has it.
    pub record FailsWith (has_nothing : HasNothing) (last : LastErrors) (words : List Text)
        (status : ℕ) (old new : Option (List ℕ)) (before after : FileBytes)
        (is_said : List ℕ → Type 0) : Type 0 where
      pub failure : Failure
      pub true_of : IsRunFailure has_nothing last words failure
      pub status_is : status ≡ status_of failure
      pub kept : failure ≢ Output → new ≡ old
      pub begun : failure ≡ Output → GetsBeginning (IsOutput words) old new
      pub left : LeavesFiles words failure before after
      pub said : is_said (failure_line failure)
