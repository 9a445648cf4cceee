-- Places of objects among one another, in the order of their paths.
use Rattle.std.specs.Prelude.{◌≡◌, ◌≢◌, ◌↔◌, ◌⊎◌, ◌<◌, ◌≤◌, ℕ, List, [], ◌∷◌, ◌++◌, length, Option, Some, None, slice_get}
use Rattle.acpi_name.specs.Names.{Segment}
use Rattle.acpi_name.specs.Paths.{parent_of}

-- no place
abbrev pub none : ℕ
none = 18446744073709551615

-- the place of a path among others; none where it isn't one of them, or where there is no path
abbrev pub IsPlaceOf : List (List Segment) → Option (List Segment) → ℕ → Type 0
IsPlaceOf paths (Some p) n =
    (slice_get paths n ≡ Some p) ⊎ ((n ≡ none) × ((k : ℕ) → slice_get paths k ≡ Some p → ⊥))
IsPlaceOf paths None n = n ≡ none

-- the path of the object in which one stands; the root stands in none
abbrev pub path_round : List Segment → Option (List Segment)
path_round [] = None
path_round (g ∷ gs) = Some (parent_of (g ∷ gs))

-- the place of the object in which that of place k stands
abbrev pub IsParent : List (List Segment) → ℕ → ℕ → Type 0
IsParent paths k n =
    (p : List Segment) → slice_get paths k ≡ Some p → IsPlaceOf paths (path_round p) n

-- the second path begins with the first and has more segments
abbrev pub IsBelow : List Segment → List Segment → Type 0
IsBelow above p = (rest : List Segment) × (p ≡ above ++ rest) × (rest ≢ [])

-- the objects below that of place k are those behind it, up to place n
pub record EndsBelow (paths : List (List Segment)) (k n : ℕ) : Type 0 where
  pub within : (k < n) × (n ≤ length paths)
  pub below : (i : ℕ) (p q : List Segment) → slice_get paths k ≡ Some p → slice_get paths i ≡ Some q
      → IsBelow p q ↔ ((k < i) × (i < n))
