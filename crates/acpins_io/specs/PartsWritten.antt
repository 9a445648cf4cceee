-- What the parts of a line do to a stream, where it is known which bytes the stream holds.
use Rattle.std.specs.Prelude.{◌≡◌, ℕ, Bool, true, false, List, [], ◌++◌, Option}
use Rattle.std.specs.Io.KnownBytes.{Appends}

-- the stream gets a beginning of these bytes, or all of them
abbrev pub AppendsBeginning : List ℕ → Option (List ℕ) → Option (List ℕ) → Type 0
AppendsBeginning bytes old new =
    (front : List ℕ) × (rest : List ℕ) × (bytes ≡ front ++ rest) × Appends old new front

-- The stream gets these bytes, unless a write fails: then it gets a beginning of them, and nothing from then on.
pub record WritesUntilFailure (bytes : List ℕ) (failed_before : Bool) (old : Option (List ℕ)) (failed : Bool)
    (new : Option (List ℕ)) : Type 0 where
  pub whole : failed ≡ false → (failed_before ≡ false) × Appends old new bytes
  pub begins : AppendsBeginning bytes old new
  pub silent : failed_before ≡ true → (failed ≡ true) × Appends old new []
