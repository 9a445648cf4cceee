-- The line that says why a run failed.
use Rattle.std.specs.Prelude.{ℕ, ◌/◌, ◌%◌, Bool, ◌||◌, nat_lt, nat_eq, if◌then◌else◌, List, ◌∷◌, [], ◌++◌, get_or, Option, Some, None, codes, decimal}
use Rattle.std.specs.List.{flat_map, starts_with}
use Rattle.std.specs.declared.io.ErrorKind.{ErrorKind}
use Rattle.std.specs.declared.io.ErrorKind.TheVariants as kinds
use Rattle.acpins_survey_run.specs.declared.failure.ReadCause.{ReadCause}
use Rattle.acpins_survey_run.specs.declared.failure.ReadCause.TheVariants.{Host, NoDsdt, ManyDsdts}
use Rattle.acpins_survey_run.specs.declared.failure.Failure.{Failure}
use Rattle.acpins_survey_run.specs.declared.failure.Failure.TheVariants.{WrongArguments, NotUtf8, BadPath, NoSuchPath, NoTable, Read, BadHex, HoldsTables, Out, Output, Memory}

-- ---- names of files

-- a control character
abbrev pub is_control : ℕ → Bool
is_control c = nat_lt c 32 || nat_eq c 127

-- a hexadecimal digit
abbrev pub digit : ℕ → ℕ
digit n = get_or (codes "0123456789ABCDEF") n 0

-- a character of a file's name as it is printed: `\x` and two digits stand for a control character
abbrev pub character_text : ℕ → List ℕ
character_text c =
    if is_control c then codes "\\x" ++ digit (c / 16) ∷ digit (c % 16) ∷ [] else c ∷ []

abbrev pub printed_name : List ℕ → List ℕ
printed_name name = flat_map character_text name

-- ---- causes

-- why the host refuses a file
abbrev pub host_cause : ErrorKind → List ℕ
host_cause kinds.NotFound = codes "no such file"
host_cause kinds.PermissionDenied = codes "permission denied"
host_cause kinds.IsADirectory = codes "is a folder"
host_cause kinds.NotADirectory = codes "not a folder"
host_cause kinds.FilesystemLoop = codes "loop of links"
host_cause kinds.InvalidFilename = codes "name too long"
host_cause kinds.StorageFull = codes "no space left"
host_cause kinds.QuotaExceeded = codes "no quota left"
host_cause kinds.FileTooLarge = codes "file too large"
host_cause kinds.ReadOnlyFilesystem = codes "read-only file system"
host_cause kinds.ResourceBusy = codes "busy"
host_cause kinds.ExecutableFileBusy = codes "busy"
host_cause kinds.BrokenPipe = codes "nobody reads it"
host_cause _ = codes "the host refuses it"

-- why a file can't be read
abbrev pub read_cause : ReadCause → List ℕ
read_cause (Host kind) = host_cause kind
read_cause NoDsdt = codes "a folder without a DSDT"
read_cause ManyDsdts = codes "a folder with more than one DSDT"

-- ---- failures

-- an argument, by its number where that is known
abbrev pub argument_text : Option ℕ → List ℕ
argument_text (Some number) = codes "argument " ++ decimal number
argument_text None = codes "an argument"

-- what is said of a bad path that begins with no backslash
abbrev pub path_hint : List ℕ → List ℕ
path_hint word =
    if starts_with nat_eq word (codes "\\") then []
    else codes ": it begins with \\ (quote it for the shell)"

-- a failure
abbrev pub failure_text : Failure → List ℕ
failure_text (WrongArguments text) = text.items
failure_text (NotUtf8 number) =
    argument_text number ++ codes " is not UTF-8: its file cannot be named"
failure_text (BadPath word) = codes "bad path: " ++ word.items ++ path_hint word.items
failure_text NoSuchPath = codes "no such path"
failure_text (NoTable file) = file.items ++ codes ": holds no table"
failure_text (Read file cause) = file.items ++ codes ": cannot be read: " ++ read_cause cause
failure_text (BadHex file) = file.items ++ codes ": bad hexadecimal text"
failure_text (HoldsTables file) = file.items ++ codes ": holds ACPI tables"
failure_text (Out file kind) = file.items ++ codes ": cannot be written: " ++ host_cause kind
failure_text Output = codes "standard output cannot be written"
failure_text Memory = codes "M Memory"

-- its line
abbrev pub failure_line : Failure → List ℕ
failure_line failure = codes "acpins-survey: " ++ failure_text failure ++ 10 ∷ []
