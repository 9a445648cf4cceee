-- Lists that rise: some numbers of their elements don't fall.
use Rattle.std.proofs.Common.{◌≤◌, ◌<◌, ℕ, zero, suc, List, [], ◌∷◌, ◌++◌, length, slice_index_or, arith}
use Rattle.std.specs.List.Sorted.{IsNonDecreasingBy}

-- the numbers don't fall, and lie between two
abbrev pub Rises : {X : Type 0} → (X → ℕ) → (from to : ℕ) → List X → Type 0
Rises f from to [] = from ≤ to
Rises f from to (x ∷ xs) = (from ≤ f x) × Rises f (f x) to xs

pub rises_from : {X : Type 0} (f : X → ℕ) (from later to : ℕ) (xs : List X) → from ≤ later → Rises f later to xs → Rises f from to xs
rises_from f from later to [] le h = omega (arith, le, h)
rises_from f from later to (x ∷ xs) le h = (omega (arith, le, h.0), h.1)

pub rises_to : {X : Type 0} (f : X → ℕ) (from to later : ℕ) (xs : List X) → to ≤ later → Rises f from to xs → Rises f from later xs
rises_to f from to later [] le h = omega (arith, le, h)
rises_to f from to later (x ∷ xs) le h = (h.0, rises_to f (f x) to later xs le h.1)

pub rises_on : {X : Type 0} (f : X → ℕ) (from middle to : ℕ) (xs ys : List X) → Rises f from middle xs → Rises f middle to ys → Rises f from to (xs ++ ys)
rises_on f from middle to [] ys h n = rises_from f from middle to ys h n
rises_on f from middle to (x ∷ xs) ys h n = (h.0, rises_on f (f x) middle to xs ys h.1 n)

pub rises_within : {X : Type 0} (f : X → ℕ) (from to : ℕ) (xs : List X) → Rises f from to xs → from ≤ to
rises_within f from to [] h = h
rises_within f from to (x ∷ xs) h = let le : f x ≤ to = rises_within f (f x) to xs h.1 in omega (arith, h.0, le)

no_less : {X : Type 0} (f : X → ℕ) (from to : ℕ) (xs : List X) (i : ℕ) (d : X) → Rises f from to xs → i < length xs → from ≤ f (slice_index_or xs i d)
no_less f from to [] i d h lt = absurd (omega (arith, lt))
no_less f from to (x ∷ xs) zero d h lt = h.0
no_less f from to (x ∷ xs) (suc i) d h lt = let le : f x ≤ f (slice_index_or xs i d) = no_less f (f x) to xs i d h.1 (omega (arith, lt)) in omega (arith, h.0, le)

-- such a list is in order
pub in_order : {X : Type 0} (f : X → ℕ) (from to : ℕ) (xs : List X) → Rises f from to xs → IsNonDecreasingBy f xs
in_order f from to [] h i j d le lt = absurd (omega (arith, lt))
in_order f from to (x ∷ xs) h zero zero d le lt = omega arith
in_order f from to (x ∷ xs) h zero (suc j) d le lt = no_less f (f x) to xs j d h.1 (omega (arith, lt))
in_order f from to (x ∷ xs) h (suc i) zero d le lt = absurd (omega (arith, le))
in_order f from to (x ∷ xs) h (suc i) (suc j) d le lt = in_order f (f x) to xs h.1 i j d (omega (arith, le)) (omega (arith, lt))
