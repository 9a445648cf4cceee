-- What the files of a run hold: definition blocks, one after another (ACPI 6.5, 5.2.6).
use Rattle.std.specs.Prelude.{◌≡◌, ◌≢◌, ◌+◌, ℕ, Bool, true, false, IsTrue, List, [], ◌∷◌, ◌++◌, length, All, Option, None, IfSome}
use Rattle.std.specs.List.{concat}
use Rattle.std.specs.declared.io.ErrorKind.{ErrorKind}
use Rattle.acpi_table.specs.Tables.{IsTable, IsRefusedAs}
use Rattle.acpi_table.specs.declared.tables.TableFault.{TableFault}
use Rattle.acpi_order.specs.Machines.{Machine, IsMachine}
use Rattle.acpins_io.specs.Hexadecimal.{SpellsInHex}
use Rattle.acpins_run.specs.declared.failure.Failure.{Failure}
use Rattle.acpins_run.specs.declared.failure.Failure.TheVariants.{Read, BadHex, Table, Memory}

-- the bytes of the file of each name, where they are known
abbrev pub FileBytes : Type 0
FileBytes = List ℕ → Option (List ℕ)

-- A file stores bytes as they are or, where it is hexadecimal text, by the digits that spell them.
abbrev pub Stores : Bool → List ℕ → List ℕ → Type 0
Stores true content bytes = SpellsInHex bytes content
Stores false content bytes = content ≡ bytes

-- Each of these is one whole table, and what is known of the file's bytes stores them one after another, and nothing
-- else.
pub record AreTablesIn (hex : Bool) (known : Option (List ℕ))
    (tables : List (List ℕ)) : Type 0 where
  pub whole : All IsTable tables
  pub stored : IfSome known (λ content. Stores hex content (concat tables))

-- The tables of a list of files, in order: those of the first file, and after them those of the others.
abbrev pub AreTablesOf : FileBytes → Bool → List (List ℕ) → List (List ℕ) → Type 0
AreTablesOf bytes_of hex [] tables = tables ≡ []
AreTablesOf bytes_of hex (name ∷ names) tables =
    (first : List (List ℕ)) × (rest : List (List ℕ)) × (tables ≡ first ++ rest)
    × AreTablesIn hex (bytes_of name) first × AreTablesOf bytes_of hex names rest

-- a file's tables follow those that were there
abbrev pub AddsTablesOf : Bool → Option (List ℕ) → List (List ℕ) → List (List ℕ) → Type 0
AddsTablesOf hex known old new =
    (added : List (List ℕ)) × (new ≡ old ++ added) × AreTablesIn hex known added

-- ---- files that hold no tables

-- After these whole tables the file has more bytes, and no table stands there for this reason.
pub record BreaksOff (hex : Bool) (known : Option (List ℕ)) (tables : List (List ℕ))
    (fault : TableFault) : Type 0 where
  pub whole : All IsTable tables
  pub refused : IfSome known
      (λ content. (rest : List ℕ) × Stores hex content (concat tables ++ rest) × (rest ≢ [])
      × IsRefusedAs fault rest)

-- Why a file gives no tables, where so many came before: opening or reading a file failed, the last time with that
-- error; its text spells no bytes; it breaks off after some more; or there is no memory.
abbrev pub IsFileFault : Bool → List ℕ → Option (List ℕ) → Option ErrorKind → ℕ → Failure → Type 0
IsFileFault hex name known error before (Read word) = (word.now ≡ name) × (error ≢ None)
IsFileFault hex name known error before (BadHex word) =
    (word.now ≡ name) × IsTrue hex
    × IfSome known (λ content. (bytes : List ℕ) → SpellsInHex bytes content → ⊥)
IsFileFault hex name known error before (Table number fault) =
    (tables : List (List ℕ)) × (number ≡ before + length tables) × BreaksOff hex known tables fault
IsFileFault hex name known error before Memory = Unit {0}
IsFileFault hex name known error before _ = ⊥

-- the first of the files that gives no tables, and why
pub record IsFilesFault (bytes_of : FileBytes) (hex : Bool) (error : Option ErrorKind)
    (names : List (List ℕ)) (failure : Failure) : Type 0 where
  pub earlier : List (List ℕ)
  pub name : List ℕ
  pub later : List (List ℕ)
  pub splits : names ≡ earlier ++ name ∷ later
  pub tables : List (List ℕ)
  pub before : AreTablesOf bytes_of hex earlier tables
  pub fault : IsFileFault hex name (bytes_of name) error (length tables) failure

-- ---- loads of files

-- the machine of the tables that the files hold, at least one
pub record IsLoadOfFiles (bytes_of : FileBytes) (hex : Bool) (depth : ℕ) (names : List (List ℕ))
    (tables : List (List ℕ)) (m : Machine) : Type 0 where
  pub of_files : AreTablesOf bytes_of hex names tables
  pub some : tables ≢ []
  pub loaded : IsMachine depth tables m
