-- The files that the arguments of a run stand for, and their tables (ACPI 6.5, 5.2.6).
use Rattle.std.specs.Prelude.{◌≡◌, ◌≢◌, ◌≤◌, ◌⊎◌, ℕ, Bool, true, false, IsTrue, List, [], ◌∷◌, ◌++◌, length, Option, Some, IfSome}
use Rattle.std.specs.declared.io.ErrorKind.{ErrorKind}
use Rattle.acpi_pieces.specs.Pieces.{ArePieces}
use Rattle.acpins_io.specs.Dump.{is_header, tables_of_dump}
use Rattle.acpins_io.specs.Hexadecimal.{SpellsInHex}
use Rattle.acpins_io.specs.Outputs.{FileBytes}
use Rattle.acpins_survey_run.specs.FailureLines.{printed_name}
use Rattle.acpins_survey_run.specs.Folders.{FolderNames, AreFilesAt, AreNamesIn, dsdts_among, dynamic_in}
use Rattle.acpins_survey_run.specs.declared.failure.Failure.{Failure}
use Rattle.acpins_survey_run.specs.declared.failure.Failure.TheVariants.{NoTable, Read, BadHex, Memory}
use Rattle.acpins_survey_run.specs.declared.failure.ReadCause.TheVariants.{Host, NoDsdt, ManyDsdts}

-- Byte strings are, in order, those of each of some sources.
abbrev pub AreOfEach : {A : Type 0} → (A → List (List ℕ) → Type 0) → List A → List (List ℕ) → Type 0
AreOfEach AreOf [] all = all ≡ []
AreOfEach AreOf (source ∷ sources) all =
    (first : List (List ℕ)) × (rest : List (List ℕ)) × (all ≡ first ++ rest) × AreOf source first
    × AreOfEach AreOf sources rest

-- ---- files

-- the files that these arguments stand for
abbrev pub AreFilesOf : FolderNames → List (List ℕ) → List (List ℕ) → Type 0
AreFilesOf names_in = AreOfEach (AreFilesAt names_in)

-- ---- their tables

-- the pieces of each of these byte strings
abbrev pub ArePiecesOfEach : List (List ℕ) → List (List ℕ) → Type 0
ArePiecesOfEach = AreOfEach (λ bytes pieces. ArePieces pieces bytes)

-- the tables in a content, which is the text that `acpidump` writes, or not
abbrev pub ArePlainTables : Bool → List ℕ → List (List ℕ) → Type 0
ArePlainTables true content tables = ArePiecesOfEach (tables_of_dump content) tables
ArePlainTables false content tables = ArePieces tables content

-- A file holds tables one behind another: as they are, as hexadecimal text, or as the text that `acpidump` writes.
abbrev pub HoldsTables : Bool → List ℕ → List (List ℕ) → Type 0
HoldsTables true content tables =
    (bytes : List ℕ) × SpellsInHex bytes content × ArePieces tables bytes
HoldsTables false content tables = ArePlainTables (is_header content) content tables

-- .. so do the bytes of a file, where they are known
abbrev pub AreTablesIn : Bool → Option (List ℕ) → List (List ℕ) → Type 0
AreTablesIn hex known tables = IfSome known (λ content. HoldsTables hex content tables)

-- the tables of these files, of each one at least
abbrev pub AreTablesOfFiles : FileBytes → Bool → List (List ℕ) → List (List ℕ) → Type 0
AreTablesOfFiles bytes_of hex =
    AreOfEach (λ name tables. (tables ≢ []) × AreTablesIn hex (bytes_of name) tables)

-- ---- what can't be read

-- the kinds of the errors with which a file, and a folder, failed last to be read
abbrev pub LastErrors : Type 0
LastErrors = Option ErrorKind × Option ErrorKind

-- The failure says that what has this name can't be read, for the cause of the last error; or that there is no memory.
abbrev pub IsUnread : List ℕ → Option ErrorKind → Failure → Type 0
IsUnread name error (Read file (Host kind)) =
    (file.items ≡ printed_name name) × (error ≡ Some kind)
IsUnread name error Memory = Unit {0}
IsUnread name error _ = ⊥

-- .. that a folder with these names has no DSDT, or more than one
abbrev pub IsWithoutDsdt : List ℕ → List (List ℕ) → Failure → Type 0
IsWithoutDsdt folder names (Read file NoDsdt) =
    (file.items ≡ printed_name folder) × (dsdts_among names ≡ [])
IsWithoutDsdt folder names (Read file ManyDsdts) =
    (file.items ≡ printed_name folder) × (2 ≤ length (dsdts_among names))
IsWithoutDsdt folder names Memory = Unit {0}
IsWithoutDsdt folder names _ = ⊥

-- why the files at a name aren't had: it can't be read; or it is a folder, which has not one DSDT, or whose folder
-- `dynamic` can't be read
abbrev pub IsFolderFault : FolderNames → Option ErrorKind → List ℕ → Failure → Type 0
IsFolderFault names_in error name failure = IsUnread name error failure
    ⊎ ((names : List (List ℕ)) × AreNamesIn names_in name (Some names)
    × (IsWithoutDsdt name names failure ⊎ IsUnread (dynamic_in name) error failure))

-- the first of the arguments whose files aren't had, and why
pub record IsFoldersFault (names_in : FolderNames) (error : Option ErrorKind)
    (names : List (List ℕ)) (failure : Failure) : Type 0 where
  pub earlier : List (List ℕ)
  pub name : List ℕ
  pub later : List (List ℕ)
  pub splits : names ≡ earlier ++ name ∷ later
  pub files : List (List ℕ)
  pub before : AreFilesOf names_in earlier files
  pub fault : IsFolderFault names_in error name failure

-- Why a file gives no tables: it can't be read, its text, which is known, spells no bytes, no table is in it, or there
-- is no memory.
abbrev pub IsFileFault : Bool → List ℕ → Option (List ℕ) → Option ErrorKind → Failure → Type 0
IsFileFault hex name known error (BadHex file) = (file.items ≡ printed_name name) × IsTrue hex
    × IfSome known (λ content. (bytes : List ℕ) → SpellsInHex bytes content → ⊥)
IsFileFault hex name known error (NoTable file) =
    (file.items ≡ printed_name name) × AreTablesIn hex known []
IsFileFault hex name known error failure = IsUnread name error failure

-- the first of the files that gives no tables, and why
pub record IsFilesFault (bytes_of : FileBytes) (hex : Bool) (error : Option ErrorKind)
    (files : List (List ℕ)) (failure : Failure) : Type 0 where
  pub earlier : List (List ℕ)
  pub name : List ℕ
  pub later : List (List ℕ)
  pub splits : files ≡ earlier ++ name ∷ later
  pub tables : List (List ℕ)
  pub before : AreTablesOfFiles bytes_of hex earlier tables
  pub fault : IsFileFault hex name (bytes_of name) error failure

-- why the tables of the files that these arguments stand for aren't had
abbrev pub IsInputFault : FileBytes → FolderNames → LastErrors → Bool → List (List ℕ) → Failure
    → Type 0
IsInputFault bytes_of names_in last hex names failure =
    IsFoldersFault names_in last.1 names failure
    ⊎ ((files : List (List ℕ)) × AreFilesOf names_in names files
    × IsFilesFault bytes_of hex last.0 files failure)
