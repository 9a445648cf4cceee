-- The tables in the bytes of a file, in arrays of a caller (docs/LIBRARY.md).
use Rattle.std.specs.Prelude.{◌≡◌, ◌⊎◌, ◌<◌, ℕ, Bool, true, false, List, length}
use Rattle.acpins_io.specs.Dump.{begins_as_tables, is_header}
use Rattle.acpins_io.specs.Hexadecimal.{SpellsInHex}
use Rattle.acpins_survey_run.specs.Input.{HoldsTables}
use Rattle.acpins_lent.specs.Joined.{ends_from, joined}
use Rattle.acpins_lent.specs.Lent.{IsFront}
use Rattle.acpins_lent.specs.declared.outcomes.SurveyOutcome.{SurveyOutcome}

-- a file of any form is hexadecimal text: it doesn't begin as tables do, and spells bytes that do
abbrev pub IsHex : List ℕ → Type 0
IsHex file = (begins_as_tables file ≡ false)
    × (bytes : List ℕ) × SpellsInHex bytes file × (begins_as_tables bytes ≡ true)

-- whether a file is read as hexadecimal text, by the form that is asked for: 0 any, 1 tables as they stand, 2 the text of acpidump, 3
-- hexadecimal text
pub data HasForm (file : List ℕ) : (form : ℕ) → (hex : Bool) → Type 0 where
  any_hex : IsHex file → HasForm file 0 true
  any_other : (IsHex file → ⊥) → HasForm file 0 false
  plain : is_header file ≡ false → HasForm file 1 false
  dump : is_header file ≡ true → HasForm file 2 false
  hexadecimal : HasForm file 3 true

-- the tables of a file, as it is read
pub record AreFileTables (form : ℕ) (file : List ℕ) (tables : List (List ℕ)) : Type 0 where
  pub hex : Bool
  pub form_is : HasForm file form hex
  pub are : HoldsTables hex file tables

-- how many tables and bytes there are
pub record AreTablesCounted (tables : List (List ℕ)) (outcome : SurveyOutcome) : Type 0 where
  pub count : outcome.tables ≡ length (ends_from 0 tables)
  pub bytes : outcome.bytes ≡ length (joined tables)

-- they stand at the front of the bytes, and their ends at the front of the ends
pub record AreFileTablesWritten (form : ℕ) (file old new ends ends' : List ℕ)
    (outcome : SurveyOutcome) : Type 0 where
  pub tables : List (List ℕ)
  pub are : AreFileTables form file tables
  pub bytes : IsFront (joined tables) old new
  pub ends_are : IsFront (ends_from 0 tables) ends ends'
  pub counted : AreTablesCounted tables outcome

-- .. have no room there
pub record NeedFileTablesRoom (form : ℕ) (file old ends : List ℕ)
    (outcome : SurveyOutcome) : Type 0 where
  pub tables : List (List ℕ)
  pub are : AreFileTables form file tables
  pub counted : AreTablesCounted tables outcome
  pub short : (length old < length (joined tables)) ⊎ (length ends < length (ends_from 0 tables))

-- the file hasn't the form that is asked for
abbrev pub HasNotForm : ℕ → List ℕ → Type 0
HasNotForm form file = (hex : Bool) → (tables : List (List ℕ)) → HasForm file form hex → HoldsTables hex file tables → ⊥
