-- The beginnings of a scope down to a length, and those of them that pass a test.
use Rattle.std.specs.Prelude.{◌≡◌, ◌≤◌, ◌+◌, ◌-◌, ℕ, Bool, List, [], length, take, Option, Some, None, IsTrue}
use Rattle.std.specs.List.{filter}
use Rattle.acpi_space.specs.Search.{beginnings}

-- the beginnings that have at least `outer` elements and pass, the longest first
abbrev pub passing : {A : Type 0} → (List A → Bool) → ℕ → List A → List (List A)
passing test outer xs = filter test (take (length xs + 1 - outer) (beginnings xs))

-- the longest of them: those of it are the same; there is none where none passes
abbrev pub IsInnermost : {A : Type 0} → (List A → Bool) → ℕ → List A → Option (List A) → Type 0
IsInnermost test outer xs None = passing test outer xs ≡ []
IsInnermost test outer xs (Some q) = IsTrue (test q) × (outer ≤ length q) × (length q ≤ length xs)
    × (passing test outer xs ≡ passing test outer q)
