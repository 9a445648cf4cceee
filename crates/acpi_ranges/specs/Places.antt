-- What stands at a place.
use Rattle.std.specs.Prelude.{◌==◌, ℕ, cond, List, [], ◌∷◌, Option, Some, None}

-- of values with their places the last one at a place, and another one where there is none
abbrev pub last_or : {X : Type 0} → Option X → List (ℕ × X) → ℕ → Option X
last_or other [] place = other
last_or other (x ∷ xs) place = last_or (cond (x.0 == place) (Some x.1) other) xs place

abbrev pub last_at : {X : Type 0} → List (ℕ × X) → ℕ → Option X
last_at xs place = last_or None xs place
