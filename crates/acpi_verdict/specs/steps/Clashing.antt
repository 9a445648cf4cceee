-- The first of several clashes of two SSDTs.
use Rattle.std.specs.Prelude.{◌≡◌, ◌⊎◌, ℕ, Bool, true, List, Option, Some, None}
use Rattle.std.specs.declared.cmp.Ordering.{Ordering}
use Rattle.std.specs.Ordering.{is_lt, nat_cmp, ordering_then}
use Rattle.acpi_name.specs.Names.{Segment}
use Rattle.acpi_name.specs.Paths.{path_cmp}
use Rattle.acpi_order.specs.Verdicts.{IsLeast}
use Rattle.acpi_verdict.specs.declared.clashes.Clash.{Clash}

-- of which numbers and paths something holds
abbrev pub Clashes : Type 1
Clashes = ℕ → ℕ → List Segment → Type 0

-- by the first number, then the second, then the path
abbrev pub clash_cmp : (i j : ℕ) (p : List Segment) (a b : ℕ) (q : List Segment) → Ordering
clash_cmp i j p a b q = ordering_then (ordering_then (nat_cmp i a) (nat_cmp j b)) (path_cmp p q)

abbrev pub is_earlier : Option Clash → ℕ → ℕ → List Segment → Bool
is_earlier None i j p = true
is_earlier (Some c) i j p = is_lt (clash_cmp i j p c.first c.second c.path)

-- those numbers and that path
abbrev pub IsAt : ℕ → ℕ → List Segment → Clashes
IsAt i j p a b q = (i ≡ a) × (j ≡ b) × (p ≡ q)

-- those of the clash
abbrev pub IsClashAt : Option Clash → Clashes
IsClashAt None i j p = ⊥
IsClashAt (Some c) i j p = IsAt c.first c.second c.path i j p

-- it is the least of which it holds, and there is one where it holds of any
abbrev pub IsLeastOf : Clashes → Option Clash → Type 0
IsLeastOf Holds None = (i j : ℕ) (p : List Segment) → Holds i j p → ⊥
IsLeastOf Holds (Some c) = IsLeast Holds c.first c.second c.path

-- it has become the least of the one that was there and of those of which it holds
abbrev pub Offers : Option Clash → Option Clash → Clashes → Type 0
Offers old new Holds = IsLeastOf (λ i j p. IsClashAt old i j p ⊎ Holds i j p) new
