-- The tables in a file, one after another (ACPI 6.5, 5.2.6).
use Rattle.std.specs.Prelude.{◌≡◌, ◌≢◌, ◌≤◌, ℕ, List, [], ◌∷◌, ◌++◌, length, take, drop}
use Rattle.std.specs.List.{All, concat}
use Rattle.acpi_table.specs.Tables.{length_field}

-- there is a header, and the table's length is a possible one
pub record HasLength (bytes : List ℕ) : Type 0 where
  pub has_header : 36 ≤ length bytes
  pub least : 36 ≤ length_field bytes
  pub most : length_field bytes ≤ 16777216

-- The piece at the front: a table of a possible length, or as much of it as is there; or else all that is left.
pub record IsFront (piece bytes : List ℕ) : Type 0 where
  pub some : bytes ≢ []
  pub table : HasLength bytes → piece ≡ take (length_field bytes) bytes
  pub other : ¬ HasLength bytes → piece ≡ bytes

abbrev pub ArePieces : List (List ℕ) → List ℕ → Type 0
ArePieces [] bytes = bytes ≡ []
ArePieces (piece ∷ pieces) bytes =
    IsFront piece bytes × ArePieces pieces (drop (length piece) bytes)

-- ---- what follows

-- The pieces, one after another, are the file. None is empty, and each that isn't the last is as long as its Length.
pub record IsCutInto (pieces : List (List ℕ)) (file : List ℕ) : Type 0 where
  pub whole : concat pieces ≡ file
  pub none_empty : All (λ piece. piece ≢ []) pieces
  pub lengths : (before : List (List ℕ)) (piece : List ℕ) (behind : List (List ℕ))
      → pieces ≡ before ++ piece ∷ behind → behind ≢ [] → length_field piece ≡ length piece

abbrev pub PiecesMakeTheFile : Type 0
PiecesMakeTheFile =
    (pieces : List (List ℕ)) (file : List ℕ) → ArePieces pieces file → IsCutInto pieces file

-- a file is cut into pieces in one way
abbrev pub PiecesAreOne : Type 0
PiecesAreOne = (pieces others : List (List ℕ)) (file : List ℕ) → ArePieces pieces file
    → ArePieces others file → pieces ≡ others
