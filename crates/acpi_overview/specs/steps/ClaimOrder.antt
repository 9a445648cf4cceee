-- How claims are kept, so that those of an address are found at once.
use Rattle.std.specs.Prelude.{◌≡◌, ◌<◌, ◌≤◌, ◌+◌, ℕ, List, length, slice_index, slice_index_or}
use Rattle.std.specs.List.Sorted.{IsNonDecreasingBy}
use Rattle.acpi_overview.specs.declared.claims.Claim.{Claim}

-- none of the first claims ends behind the one at a place
abbrev pub IsLast : List Claim → (count place : ℕ) → Type 0
IsLast claims count place = (k : ℕ) (d : Claim)
    → k < count → (slice_index_or claims k d).to ≤ (slice_index_or claims place d).to

-- with each claim the place of one up to it that ends last
abbrev pub AreFurthest : List Claim → List ℕ → Type 0
AreFurthest claims furthest = (length furthest ≡ length claims)
    × ((i : ℕ) → i < length claims
    → (slice_index furthest i ≤ i) × IsLast claims (i + 1) (slice_index furthest i))

-- claims in the order of their first addresses, and these places
abbrev pub AreOrdered : List Claim → List ℕ → Type 0
AreOrdered claims furthest = IsNonDecreasingBy (λ c. c.from) claims × AreFurthest claims furthest
