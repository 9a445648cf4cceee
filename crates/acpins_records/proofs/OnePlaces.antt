-- Objects have one place each, one place of their parents, and one end of what is below them.
use Rattle.std.proofs.Common.{◌≡◌, ◌⊎◌, inl, inr, ℕ, ◌+◌, ◌<◌, ◌≤◌, true, List, [], ◌∷◌, length, Option, Some, None, slice_get, refl, sym, ◌∙◌, arith}
use Rattle.std.specs.List.{AllZip}
use Rattle.std.specs.FinMap.{is_sorted}
use Rattle.std.proofs.lemmas.List.{length-map}
use Rattle.acpi_name.specs.Names.{Segment}
use Rattle.acpi_name.specs.Paths.{path_cmp}
use Rattle.acpi_space.specs.Lookups.{Lookup}
use Rattle.acpi_tree.specs.Objects.{ObjectTree}
use Rattle.acpi_declare.specs.Links.{Links}
use Rattle.acpi_places.specs.declared.place.CodePlace.{CodePlace}
use Rattle.acpins_records.specs.Contents.{Contents, IsTarget, AreContents, paths_in}
use Rattle.acpins_records.specs.Tree.{IsPlaceOf, path_round, IsBelow, EndsBelow}
use Rattle.acpins_records.proofs.Prefixes.{ascends, not_back, there}

apart_or_same : (i j : ℕ) → (i < j) ⊎ ((j < i) ⊎ (i ≡ j))
apart_or_same i j = grind arith

module _ (es : List (List Segment × ObjectTree)) (sorted : is_sorted path_cmp es ≡ true) where
  one_index : (p : List Segment) (i j : ℕ) → slice_get (paths_in es) i ≡ Some p → slice_get (paths_in es) j ≡ Some p → i ≡ j
  one_index p i j h k = by (apart_or_same i j)
    where
      by : (i < j) ⊎ ((j < i) ⊎ (i ≡ j)) → i ≡ j
      by (inl lt) = let less = ascends es sorted i j p p lt h k in absurd (not_back p p less less)
      by (inr (inl lt)) = let less = ascends es sorted j i p p lt k h in absurd (not_back p p less less)
      by (inr (inr same)) = same

  one_place : (o : Option (List Segment)) (n m : ℕ) → IsPlaceOf (paths_in es) o n → IsPlaceOf (paths_in es) o m → n ≡ m
  one_place None n m h k = h ∙ sym k
  one_place (Some p) n m (inl h) (inl k) = one_index p n m h k
  one_place (Some p) n m (inl h) (inr k) = absurd (k.1 n h)
  one_place (Some p) n m (inr h) (inl k) = absurd (h.1 m k)
  one_place (Some p) n m (inr h) (inr k) = h.0 ∙ sym k.0

  one_target : (o : Option (List Segment)) (n m : ℕ) → IsTarget (paths_in es) o n → IsTarget (paths_in es) o m → n ≡ m
  one_target None n m h k = h ∙ sym k
  one_target (Some p) n m h k = one_index p n m h k

  pub one_targets : (ls : Links) (ns ms : List ℕ) → AllZip (IsTarget (paths_in es)) ls ns → AllZip (IsTarget (paths_in es)) ls ms → ns ≡ ms
  one_targets [] [] [] h k = refl
  one_targets [] [] (m ∷ ms) h k = absurd k
  one_targets [] (n ∷ ns) ms h k = absurd h
  one_targets (l ∷ ls) [] ms h k = absurd h
  one_targets (l ∷ ls) (n ∷ ns) [] h k = absurd k
  one_targets (l ∷ ls) (n ∷ ns) (m ∷ ms) h k =
      let first : n ≡ m = one_target l n m h.0 k.0 in
      let later : ns ≡ ms = one_targets ls ns ms h.1 k.1 in
      λ i. first i ∷ later i

  -- the first of two ends is none before the other
  not_sooner : (k n m : ℕ) (p : List Segment) → slice_get (paths_in es) k ≡ Some p → EndsBelow (paths_in es) k n → EndsBelow (paths_in es) k m → n < m → ⊥
  not_sooner k n m p here h l lt =
      let at = there (paths_in es) n (omega (arith, l.within.1)) in
      let below : IsBelow p at.0 = (l.below n p at.0 here at.1).1 (h.within.0, lt) in
      absurd (omega (arith, ((h.below n p at.0 here at.1).0 below).1))

  one_end : (k n m : ℕ) (p : List Segment) → slice_get (paths_in es) k ≡ Some p → EndsBelow (paths_in es) k n → EndsBelow (paths_in es) k m → n ≡ m
  one_end k n m p here h l = by (apart_or_same n m)
    where
      by : (n < m) ⊎ ((m < n) ⊎ (n ≡ m)) → n ≡ m
      by (inl lt) = absurd (not_sooner k n m p here h l lt)
      by (inr (inl lt)) = absurd (not_sooner k m n p here l h lt)
      by (inr (inr same)) = same

  -- ---- of two lists of contents

  module _ (links : Lookup Links) (codes codes' : Lookup CodePlace) (c d : Contents) (h : AreContents es links codes c) (k : AreContents es links codes' d) where
    at_place : (j : ℕ) → j < length es → (p : List Segment) × (slice_get (paths_in es) j ≡ Some p)
    at_place j below = there (paths_in es) j (omega (arith, length-map es (λ (e : List Segment × ObjectTree). e.0)))

    pub one_parent : (j : ℕ) → 0 ≤ j → j < 0 + length es → h.parents j ≡ k.parents j
    one_parent j low high =
        let at = at_place j (omega arith) in
        one_place (path_round at.0) (h.parents j) (k.parents j) (h.are_parents j (omega arith) at.0 at.1) (k.are_parents j (omega arith) at.0 at.1)

    pub one_below : (j : ℕ) → 0 ≤ j → j < 0 + length es → h.belows j ≡ k.belows j
    one_below j low high = let at = at_place j (omega arith) in one_end j (h.belows j) (k.belows j) at.0 at.1 (h.are_belows j (omega arith)) (k.are_belows j (omega arith))
