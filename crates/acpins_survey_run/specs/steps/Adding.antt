-- Byte strings behind others.
use Rattle.std.specs.Prelude.{◌≡◌, ℕ, List, ◌++◌}

-- Behind a list stand further byte strings, of which this holds.
abbrev pub Adds : (List (List ℕ) → Type 0) → List (List ℕ) → List (List ℕ) → Type 0
Adds AreThose old new = (added : List (List ℕ)) × (new ≡ old ++ added) × AreThose added
