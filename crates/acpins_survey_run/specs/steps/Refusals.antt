-- Why a part of a run fails, and what a survey prints and writes.
use Rattle.std.specs.Prelude.{◌≡◌, ℕ, List, Option, Some}
use Rattle.acpi_name.specs.Text.{IsPathText}
use Rattle.acpins_io.specs.Outputs.{FileBytes, IsHeldIn, printed_of}
use Rattle.acpins_words.specs.Words.{Text}
use Rattle.acpins_survey_words.specs.Words.{Asked, survey}
use Rattle.acpins_survey_run.specs.FailureLines.{printed_name}
use Rattle.acpins_survey_run.specs.Folders.{FolderNames}
use Rattle.acpins_survey_run.specs.Input.{AreFilesOf, IsInputFault, LastErrors}
use Rattle.acpins_survey_run.specs.Runs.{AreNamesOf, IsMadeOf, Makes, page_file}
use Rattle.acpins_survey_run.specs.Stored.{IsUnspared}
use Rattle.acpins_survey_run.specs.declared.failure.ReadCause.{ReadCause}
use Rattle.acpins_survey_run.specs.declared.failure.Failure.{Failure}
use Rattle.acpins_survey_run.specs.declared.failure.Failure.TheVariants.{BadPath, Read, HoldsTables, Out, Memory}

-- the word that stands as PATH spells no path, or there is no memory
abbrev pub IsUnprinted : Option Text → Failure → Type 0
IsUnprinted path (BadPath printed) = (word : Text) × (path ≡ Some word)
    × ¬ IsPathText word × (printed.items ≡ printed_name word)
IsUnprinted path Memory = Unit {0}
IsUnprinted path _ = ⊥

-- what has this name can't be read for this cause, or there is no memory
abbrev pub IsReadOf : List ℕ → ReadCause → Failure → Type 0
IsReadOf name cause (Read file read) = (file.items ≡ printed_name name) × (read ≡ cause)
IsReadOf name cause Memory = Unit {0}
IsReadOf name cause _ = ⊥

-- the file that is to be written is one of these, or holds tables, or there is no memory
abbrev pub IsRefused : FileBytes → Option Text → List (List ℕ) → Failure → Type 0
IsRefused bytes_of out files (HoldsTables printed) = (name : Text) × (out ≡ Some name)
    × (printed.items ≡ printed_name name) × IsUnspared bytes_of files name
IsRefused bytes_of out files Memory = Unit {0}
IsRefused bytes_of out files _ = ⊥

-- the failure says that the file can't be written, or that there is no memory for it
abbrev pub IsUnwritten : Option Text → Failure → Type 0
IsUnwritten out (Out printed kind) =
    (name : Text) × (out ≡ Some name) × (printed.items ≡ printed_name name)
IsUnwritten out Memory = Unit {0}
IsUnwritten out _ = ⊥

-- why the tables that these arguments stand for aren't had
abbrev pub IsTablesFault : FileBytes → FolderNames → LastErrors → Asked → List Text → Failure → Type 0
IsTablesFault files folders last asked names (HoldsTables printed) =
    (out : Text) × (sources : List (List ℕ)) × (page_file asked.command ≡ Some out)
    × (printed.items ≡ printed_name out)
    × AreFilesOf folders names sources × IsUnspared files sources out
IsTablesFault files folders last asked names Memory = Unit {0}
IsTablesFault files folders last asked names failure =
    IsInputFault files folders last asked.hex names failure

-- why those of one of the machines aren't had
abbrev pub IsMachinesFault : FileBytes → FolderNames → LastErrors → Asked → Failure → Type 0
IsMachinesFault files folders last asked (HoldsTables printed) =
    (names : List Text) × AreNamesOf asked names
    × (out : Text) × (sources : List (List ℕ)) × (page_file asked.command ≡ Some out)
    × (printed.items ≡ printed_name out)
    × AreFilesOf folders names sources × IsUnspared files sources out
IsMachinesFault files folders last asked Memory = Unit {0}
IsMachinesFault files folders last asked failure = (names : List Text) × AreNamesOf asked names
    × IsInputFault files folders last asked.hex names failure

-- what a survey prints
abbrev pub IsPrinted : FileBytes → FolderNames → Makes → Asked → ℕ → List ℕ → Type 0
IsPrinted files folders makes asked status text = (made : List ℕ)
    × IsMadeOf files folders makes (survey asked) status made
    × (text ≡ printed_of (page_file asked.command) made)

-- .. and what it writes to files
abbrev pub IsStored : FileBytes → FolderNames → Makes → Asked → FileBytes → FileBytes → Type 0
IsStored files folders makes asked old new = (status : ℕ) × (made : List ℕ)
    × IsMadeOf files folders makes (survey asked) status made
    × IsHeldIn (page_file asked.command) made old new
