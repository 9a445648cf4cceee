-- What a run prints and says, and why it prints nothing (docs/COMMAND.md).
use Rattle.std.specs.Prelude.{◌≡◌, ◌≢◌, ◌⊎◌, ◌∷◌, ℕ, List, [], Option, Some, None}
use Rattle.std.specs.Io.KnownBytes.{Appends}
use Rattle.std.specs.declared.io.ErrorKind.{ErrorKind}
use Rattle.acpi_name.specs.Names.{Segment}
use Rattle.acpi_name.specs.Text.{SpellsPathText, IsPathText}
use Rattle.acpi_order.specs.Machines.{Machine}
use Rattle.acpi_rewrite.specs.Rewriting.{AreTablesOfBytes, AreRewritten}
use Rattle.acpi_declare.specs.Refusals.{IsLoadFault}
use Rattle.acpi_declare.specs.declared.fault.LoadFault.{LoadFault}
use Rattle.acpins_run.specs.declared.failure.Failure.{Failure}
use Rattle.acpins_run.specs.declared.failure.Failure.TheVariants.{WrongWords, BadPath, NoSuchPath, NoTable, Read, BadHex, Out, Output, Table, Item, Load, Memory}
use Rattle.acpins_words.specs.Words.{Text, Command, listing, showing, checking, rewriting, Asked, asked_of}
use Rattle.acpins_run.specs.Input.{FileBytes, AreTablesOf, IsFilesFault, IsLoadOfFiles}
use Rattle.acpins_output.specs.Listings.{Prints}
use Rattle.acpins_output.specs.Shown.{Shows}
use Rattle.acpins_output.specs.Checked.{Checks}
use Rattle.acpins_io.specs.PartsWritten.{AppendsBeginning}
use Rattle.acpins_io.specs.FilesWritten.{Holds}
use Rattle.acpins_run.specs.Rewritten.{file_text, IsUnwritten}
use Rattle.acpins_run.specs.Failures.{failure_of, status_of}
use Rattle.acpins_run.specs.FailureLines.{failure_line}

-- ---- what is printed

-- the text prints the objects and links of the tables in the files
pub record IsListing (bytes_of : FileBytes) (asked : Asked) (text : List ℕ) : Type 0 where
  pub tables : List (List ℕ)
  pub machine : Machine
  pub loaded : IsLoadOfFiles bytes_of asked.hex asked.depth asked.files tables machine
  pub printed : Prints machine.objects machine.links text

-- the text prints the object at the path that the word spells
pub record IsShowing (bytes_of : FileBytes) (asked : Asked) (word : Text)
    (text : List ℕ) : Type 0 where
  pub path : List Segment
  pub spelled : SpellsPathText path word
  pub tables : List (List ℕ)
  pub machine : Machine
  pub loaded : IsLoadOfFiles bytes_of asked.hex asked.depth asked.files tables machine
  pub printed : Shows asked.depth tables machine path text

-- the text and the status are those of the verdict on the SSDTs in the files, over the DSDT, the first of all tables
pub record IsChecking (bytes_of : FileBytes) (asked : Asked) (status : ℕ)
    (text : List ℕ) : Type 0 where
  pub dsdt : List ℕ
  pub ssdts : List (List ℕ)
  pub of_files : AreTablesOf bytes_of asked.hex asked.files (dsdt ∷ ssdts)
  pub checked : Checks asked.depth dsdt ssdts status text

-- the tables in the files, at least one, and the same in their shortest spelling
pub record IsRewriting (bytes_of : FileBytes) (asked : Asked) : Type 0 where
  pub tables : List (List ℕ)
  pub of_files : AreTablesOf bytes_of asked.hex asked.files tables
  pub some : tables ≢ []
  pub rewritten : List (List ℕ)
  pub are : AreRewritten asked.depth tables rewritten
  pub bytes : AreTablesOfBytes tables

-- What is printed, and the status with which the run ends then. Rewritten tables are written to a file, and nothing is
-- printed.
abbrev pub IsPrinted : FileBytes → Asked → Command → ℕ → List ℕ → Type 0
IsPrinted bytes_of asked listing status text = (status ≡ 0) × IsListing bytes_of asked text
IsPrinted bytes_of asked (showing word) status text =
    (status ≡ 0) × IsShowing bytes_of asked word text
IsPrinted bytes_of asked checking status text = IsChecking bytes_of asked status text
IsPrinted bytes_of asked (rewriting word) status text =
    (status ≡ 0) × IsRewriting bytes_of asked × (text ≡ [])

-- the words ask for that text
abbrev pub IsOutput : FileBytes → List Text → ℕ → List ℕ → Type 0
IsOutput bytes_of words status text = (asked : Asked) × (asked_of words ≡ Some asked)
    × IsPrinted bytes_of asked asked.command status text

-- standard output gets it, whole
abbrev pub GetsOutput : FileBytes → List Text → ℕ → Option (List ℕ) → Option (List ℕ) → Type 0
GetsOutput bytes_of words status old new =
    (text : List ℕ) × IsOutput bytes_of words status text × Appends old new text

-- .. or a beginning of it
abbrev pub GetsBeginning : FileBytes → List Text → Option (List ℕ) → Option (List ℕ) → Type 0
GetsBeginning bytes_of words old new = (status : ℕ) × (text : List ℕ)
    × IsOutput bytes_of words status text × AppendsBeginning text old new

-- ---- what is written to files

-- What was written to each file, where it is known.
-- The file of that name holds the tables of the files, at least one, in their shortest spelling, and the others are as
-- they were.
pub record IsStored (bytes_of : FileBytes) (asked : Asked) (name : Text)
    (old new : FileBytes) : Type 0 where
  pub tables : List (List ℕ)
  pub of_files : AreTablesOf bytes_of asked.hex asked.files tables
  pub some : tables ≢ []
  pub rewritten : List (List ℕ)
  pub are : AreRewritten asked.depth tables rewritten
  pub old_bytes : AreTablesOfBytes tables
  pub new_bytes : AreTablesOfBytes rewritten
  pub held : Holds (old name) (new name) (file_text asked.hex rewritten)
  pub others : (other : List ℕ) → other ≢ name → new other ≡ old other

-- rewritten tables are, and no other command writes to a file
abbrev pub IsStoredFor : FileBytes → Asked → Command → FileBytes → FileBytes → Type 0
IsStoredFor bytes_of asked listing old new = new ≡ old
IsStoredFor bytes_of asked (showing word) old new = new ≡ old
IsStoredFor bytes_of asked checking old new = new ≡ old
IsStoredFor bytes_of asked (rewriting word) old new = IsStored bytes_of asked word old new

abbrev pub StoresOutput : FileBytes → List Text → FileBytes → FileBytes → Type 0
StoresOutput bytes_of words old new = (asked : Asked) × (asked_of words ≡ Some asked)
    × IsStoredFor bytes_of asked asked.command old new

-- a failure leaves all files as they were; where standard output can't be written, all else is done
abbrev pub LeavesFiles : FileBytes → List Text → Failure → FileBytes → FileBytes → Type 0
LeavesFiles bytes_of words Output old new = StoresOutput bytes_of words old new
LeavesFiles bytes_of words failure old new = new ≡ old

-- ---- why nothing is

-- the tables that a command loads: `check` the DSDT alone, since an SSDT that doesn't load over it is a verdict
abbrev pub loaded_by : Command → List (List ℕ) → List (List ℕ)
loaded_by checking (dsdt ∷ ssdts) = dsdt ∷ []
loaded_by command tables = tables

-- what the command loads of the tables in the files has no load, and the failure tells a reason
pub record IsRefusal (bytes_of : FileBytes) (asked : Asked) (failure : Failure) : Type 0 where
  pub tables : List (List ℕ)
  pub of_files : AreTablesOf bytes_of asked.hex asked.files tables
  pub fault : LoadFault
  pub refused : IsLoadFault asked.depth (loaded_by asked.command tables) fault
  pub told : failure ≡ failure_of fault

-- the words ask for the object of a path, and the namespace has none there
pub record IsNoSuchPath (bytes_of : FileBytes) (asked : Asked) (word : Text) : Type 0 where
  pub path : List Segment
  pub spelled : SpellsPathText path word
  pub tables : List (List ℕ)
  pub machine : Machine
  pub loaded : IsLoadOfFiles bytes_of asked.hex asked.depth asked.files tables machine
  pub none : machine.objects path ≡ None

-- no path is spelled by the word, or none has an object
abbrev pub IsBadPath : Command → Type 0
IsBadPath listing = ⊥
IsBadPath (showing word) = ¬ IsPathText word
IsBadPath checking = ⊥
IsBadPath (rewriting word) = ⊥

abbrev pub IsMissingPath : FileBytes → Asked → Command → Type 0
IsMissingPath bytes_of asked listing = ⊥
IsMissingPath bytes_of asked (showing word) = IsNoSuchPath bytes_of asked word
IsMissingPath bytes_of asked checking = ⊥
IsMissingPath bytes_of asked (rewriting word) = ⊥

-- the rewritten tables are made, and the file of that name is said not to be written
abbrev pub IsUnwrittenFile : FileBytes → Asked → Command → Failure → Type 0
IsUnwrittenFile bytes_of asked (rewriting word) failure =
    IsRewriting bytes_of asked × IsUnwritten word failure
IsUnwrittenFile bytes_of asked _ failure = ⊥

-- why what the words ask for can't be made: the path is none or has no object; the files can't be read or cut into
-- tables, they hold none, the tables have no load; a file can't be written; or there is no memory
-- `last` is the kind of the error with which opening or reading a file failed last.
abbrev pub IsFailureOf : FileBytes → Option ErrorKind → Asked → Failure → Type 0
IsFailureOf bytes_of last asked (Read word) =
    IsFilesFault bytes_of asked.hex last asked.files (Read word)
IsFailureOf bytes_of last asked (BadHex word) =
    IsFilesFault bytes_of asked.hex last asked.files (BadHex word)
IsFailureOf bytes_of last asked (Table number fault) =
    IsFilesFault bytes_of asked.hex last asked.files (Table number fault)
IsFailureOf bytes_of last asked BadPath = IsBadPath asked.command
IsFailureOf bytes_of last asked NoSuchPath = IsMissingPath bytes_of asked asked.command
IsFailureOf bytes_of last asked (Out word) =
    IsUnwrittenFile bytes_of asked asked.command (Out word)
IsFailureOf bytes_of last asked NoTable = AreTablesOf bytes_of asked.hex asked.files []
IsFailureOf bytes_of last asked (Item number reason place) =
    IsRefusal bytes_of asked (Item number reason place)
IsFailureOf bytes_of last asked (Load number reason) =
    IsRefusal bytes_of asked (Load number reason)
IsFailureOf bytes_of last asked Memory = Unit {0}
IsFailureOf bytes_of last asked _ = ⊥

-- why a run fails: the words ask for nothing; or what they ask for can't be made, or can't be written
abbrev pub IsRunFailure : FileBytes → Option ErrorKind → List Text → Failure → Type 0
IsRunFailure bytes_of last words WrongWords = asked_of words ≡ None
IsRunFailure bytes_of last words Memory = Unit {0}
IsRunFailure bytes_of last words Output =
    (status : ℕ) × (text : List ℕ) × IsOutput bytes_of words status text
IsRunFailure bytes_of last words failure =
    (asked : Asked) × (asked_of words ≡ Some asked) × IsFailureOf bytes_of last asked failure

-- the words ask for nothing, or for a path that is none
abbrev pub IsWrong : List Text → Type 0
IsWrong words = (asked_of words ≡ None)
    ⊎ ((asked : Asked) × (asked_of words ≡ Some asked) × IsBadPath asked.command)

-- A run ends with the status of such a failure, and its line is said. Standard output is as it was; if it was that
-- which could not be written, it got a beginning of what the words ask for. What was written to files is as
-- `LeavesFiles` has it.
pub record FailsWith (bytes_of : FileBytes) (last : Option ErrorKind) (words : List Text)
    (status : ℕ) (old new : Option (List ℕ)) (before after : FileBytes)
    (is_said : List ℕ → Type 0) : Type 0 where
  pub failure : Failure
  pub true_of : IsRunFailure bytes_of last words failure
  pub status_is : status ≡ status_of failure
  pub kept : failure ≢ Output → new ≡ old
  pub begun : failure ≡ Output → GetsBeginning bytes_of words old new
  pub left : LeavesFiles bytes_of words failure before after
  pub said : is_said (failure_line failure)
