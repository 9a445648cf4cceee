-- What becomes of the text that a run makes: it is printed, or written to a file.
use Rattle.std.specs.Prelude.{◌≡◌, ◌≢◌, ℕ, List, [], Option, Some, None}
use Rattle.std.specs.Io.KnownBytes.{Appends}
use Rattle.acpins_io.specs.FilesWritten.{Holds}
use Rattle.acpins_io.specs.PartsWritten.{AppendsBeginning}

-- the bytes of the file of each name, where they are known
abbrev pub FileBytes : Type 0
FileBytes = List ℕ → Option (List ℕ)

-- ---- a text that is written to a file, or to none

-- what is printed of it
abbrev pub printed_of : Option (List ℕ) → List ℕ → List ℕ
printed_of (Some out) text = []
printed_of None text = text

-- The file to which it is written holds it, and all other files are as they were.
-- `old` and `new` are what was written to each file, where it is known.
abbrev pub IsHeldIn : Option (List ℕ) → List ℕ → FileBytes → FileBytes → Type 0
IsHeldIn (Some out) text old new =
    Holds (old out) (new out) text × ((other : List ℕ) → other ≢ out → new other ≡ old other)
IsHeldIn None text old new = new ≡ old

-- ---- standard output

-- it gets a text that is printed with this status, whole
abbrev pub GetsOutput : (ℕ → List ℕ → Type 0) → ℕ → Option (List ℕ) → Option (List ℕ) → Type 0
GetsOutput IsOutput status old new = (text : List ℕ) × IsOutput status text × Appends old new text

-- .. or a beginning of one
abbrev pub GetsBeginning : (ℕ → List ℕ → Type 0) → Option (List ℕ) → Option (List ℕ) → Type 0
GetsBeginning IsOutput old new =
    (status : ℕ) × (text : List ℕ) × IsOutput status text × AppendsBeginning text old new
