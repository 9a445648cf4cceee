-- The last value at a place, among values behind others.
use Rattle.std.proofs.Common.{◌≡◌, ◌==◌, ℕ, cond, List, [], ◌∷◌, ◌++◌, Option, Some, refl}
use Rattle.acpi_ranges.specs.Places.{last_or}

pub last_behind : {X : Type 0} (xs ys : List (ℕ × X)) (other : Option X) (q : ℕ) → last_or other (xs ++ ys) q ≡ last_or (last_or other xs q) ys q
last_behind [] ys other q = refl
last_behind (x ∷ xs) ys other q = last_behind xs ys (cond (x.0 == q) (Some x.1) other) q
