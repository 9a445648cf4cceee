-- What stands at a place, among what stands in the order of places.
use Rattle.std.proofs.Common.{◌≡◌, ◌<◌, ◌≤◌, ◌==◌, ℕ, zero, suc, true, false, Bool, cond, List, [], ◌∷◌, length, map, drop, slice_get, slice_index_or, Option, Some, None, option_map, option_copied, Bor, refl, sym, ap, subst, ◌∙◌, arith}
use Rattle.std.specs.List.{find}
use Rattle.std.specs.List.Sorted.{IsNonDecreasingBy}
use Rattle.std.specs.Option.{option_and_then}
use Rattle.acpi_ranges.specs.steps.PlacedItems.{if_there}
use Rattle.std.proofs.lemmas.Bool.{ne_eqb, eqb-false}

strictly : (a b c : ℕ) → a ≤ b → b ≤ c → (b ≡ a → ⊥) → a < c
strictly a b c le on ne = omega (arith, le, on, ne)

-- none of them stands there, where each stands behind it
find_none : {X : Type 0} (n : X → ℕ) (place : ℕ) (xs : List X) → ((i : ℕ) (d : X) → i < length xs → place < n (slice_index_or xs i d)) → find (λ x. n x == place) xs ≡ None
find_none n place [] after = refl
find_none n place (x ∷ xs) after =
    let first : place < n x = after 0 x (omega arith) in
    let other : (n x == place) ≡ false = ne_eqb (n x) place (λ e. omega (arith, first, e)) in
    ap (λ b. cond b (Some x) (find (λ x. n x == place) xs)) other ∙ find_none n place xs (λ i d lt. after (suc i) d (omega (arith, lt)))

-- the first at the place, where those before this number stand before the place, and the one of this number doesn't
pub found_at : {X : Type 0} (n : X → ℕ) (place : ℕ) (xs : List X) (k : ℕ) → IsNonDecreasingBy n xs → ((i : ℕ) (d : X) → i < k → i < length xs → n (slice_index_or xs i d) < place)
    → ((x : X) → slice_get xs k ≡ Some x → place ≤ n x) → find (λ x. n x == place) xs ≡ option_and_then (if_there n place) (slice_get xs k)
found_at n place [] k sorted before from = refl
found_at n place (x ∷ xs) zero sorted before from = by (n x == place) refl
  where
    by : (b : Bool) → (n x == place) ≡ b → cond b (Some x) (find (λ x. n x == place) xs) ≡ cond b (Some x) None
    by true e = refl
    by false e = find_none n place xs (λ i d lt.
        let le : place ≤ n x = from x refl in
        let on : n x ≤ n (slice_index_or xs i d) = sorted 0 (suc i) d (omega arith) (omega (arith, lt)) in
        let ne : n x ≡ place → ⊥ = eqb-false (n x) place e in
        strictly place (n x) (n (slice_index_or xs i d)) le on ne)
found_at n place (x ∷ xs) (suc k) sorted before from =
    let first : n x < place = before 0 x (omega arith) (omega arith) in
    let other : (n x == place) ≡ false = ne_eqb (n x) place (λ e. omega (arith, first, e)) in
    ap (λ b. cond b (Some x) (find (λ x. n x == place) xs)) other
    ∙ found_at n place xs k (λ i j d le lt. sorted (suc i) (suc j) d (omega (arith, le)) (omega (arith, lt))) (λ i d lt in_range. before (suc i) d (omega (arith, lt)) (omega (arith, in_range))) from

-- ---- values of others

get_or_mapped : {X Y : Type 0} (f : X → Y) (xs : List X) (k : ℕ) (d : X) → slice_index_or (map f xs) k (f d) ≡ f (slice_index_or xs k d)
get_or_mapped f [] k d = refl
get_or_mapped f (x ∷ xs) zero d = refl
get_or_mapped f (x ∷ xs) (suc k) d = get_or_mapped f xs k d

pub length_mapped : {X Y : Type 0} (f : X → Y) (xs : List X) → length (map f xs) ≡ length xs
length_mapped f [] = refl
length_mapped f (x ∷ xs) = ap suc (length_mapped f xs)

mapped_by : {X Y : Type 0} (f : X → Y) (b : Bool) (x : X) (o : Option Y) (q : Option X) → o ≡ option_map f q → cond b (Some (f x)) o ≡ option_map f (cond b (Some x) q)
mapped_by f true x o q h = refl
mapped_by f false x o q h = h

pub find_mapped : {X Y : Type 0} (f : X → Y) (p : Y → Bool) (xs : List X) → find p (map f xs) ≡ option_map f (find (λ x. p (f x)) xs)
find_mapped f p [] = refl
find_mapped f p (x ∷ xs) = mapped_by f (p (f x)) x (find p (map f xs)) (find (λ x. p (f x)) xs) (find_mapped f p xs)

pub ordered_mapped : {X Y : Type 0} (f : X → Y) (n : Y → ℕ) (xs : List X) → IsNonDecreasingBy n (map f xs) → IsNonDecreasingBy (λ x. n (f x)) xs
ordered_mapped f n xs sorted i j d le lt =
    let mapped : (k : ℕ) → slice_index_or (map f xs) k (f d) ≡ f (slice_index_or xs k d) = λ k. get_or_mapped f xs k d in
    let on : n (slice_index_or (map f xs) i (f d)) ≤ n (slice_index_or (map f xs) j (f d)) = sorted i j (f d) le (omega (arith, lt, length_mapped f xs)) in
    omega (arith, on, ap n (mapped i), ap n (mapped j))

pub drop_mapped : {X Y : Type 0} (f : X → Y) (k : ℕ) (xs : List X) → drop k (map f xs) ≡ map f (drop k xs)
drop_mapped f zero xs = refl
drop_mapped f (suc k) [] = refl
drop_mapped f (suc k) (x ∷ xs) = drop_mapped f k xs

-- the first at a place among the values of others that stand in order
pub found_mapped : {X Y : Type 0} (f : X → Y) (n : Y → ℕ) (place : ℕ) (xs : List X) (ys : List Y) (r : Option X) → map f xs ≡ ys → IsNonDecreasingBy n ys
    → (IsNonDecreasingBy (λ x. n (f x)) xs → r ≡ find (λ x. n (f x) == place) xs) → find (λ y. n y == place) ys ≡ option_map f r
found_mapped f n place xs ys r same sorted found =
    let here : IsNonDecreasingBy n (map f xs) = subst (IsNonDecreasingBy n) (sym same) sorted in
    ap (find (λ y. n y == place)) (sym same) ∙ find_mapped f (λ y. n y == place) xs ∙ ap (option_map f) (sym (found (ordered_mapped f n xs here)))

pub copied_mapped : {X Y : Type 0} (f : X → Y) (r : Option (Bor X)) → option_map f (option_copied r) ≡ option_map (λ x. f x.now) r
copied_mapped f None = refl
copied_mapped f (Some x) = refl
