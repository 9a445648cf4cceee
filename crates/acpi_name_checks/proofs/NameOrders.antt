-- How names compare.
use Rattle.std.specs.Prelude.{◌||◌, ◌&&◌, nat_eq}
use Rattle.std.proofs.Common.{◌≡◌, ◌∙◌, ℕ, ◌+◌, ◌-◌, ◌<◌, ◌≤◌, Bool, true, false, cond, List, [], ◌∷◌, length, drop, min, get_or, Some, slice_get, arith, refl, sym, ap, length-drop}
use Rattle.std.specs.Bool.{beq}
use Rattle.std.specs.Cmp.{both_tied, nat_cmp_is, unsigned_ties}
use Rattle.std.specs.Cmp.Lexicographic.{lists_ties, pointwise}
use Rattle.std.specs.Ordering.{MatchOrdering, bool_cmp, eq_by_cmp, is_eq, is_ne, nat_cmp, ordering_then}
use Rattle.std.specs.declared.cmp.Ordering.{Ordering}
use Rattle.std.specs.declared.cmp.Ordering.TheVariants.{Less, Equal, Greater}
use Rattle.std.proofs.lemmas.List.{drop_more}
use Rattle.std.proofs.lemmas.Option.{slice_get-get_or}
use Rattle.acpi_name.specs.Names.{NameParts, Segment}
use Rattle.acpi_name.specs.NameEqual.{name_eq}
use Rattle.acpi_name.specs.Paths.{path_cmp, segment_cmp}
use Rattle.acpi_name_checks.specs.steps.NameOrder.{name_cmp}

bools_tied : (a b : Bool) → beq a b ≡ is_eq (bool_cmp a b)
bools_tied true true = refl
bools_tied true false = refl
bools_tied false true = refl
bools_tied false false = refl

-- names are equal that the order doesn't tell apart
pub names_tied : (m n : NameParts) → name_eq m n ≡ eq_by_cmp name_cmp m n
names_tied m n =
    both_tied (beq m.rooted n.rooted && nat_eq m.parents n.parents) (pointwise (pointwise nat_eq) m.segments n.segments)
    (ordering_then (bool_cmp m.rooted n.rooted) (nat_cmp m.parents n.parents)) (path_cmp m.segments n.segments)
    (both_tied (beq m.rooted n.rooted) (nat_eq m.parents n.parents) (bool_cmp m.rooted n.rooted) (nat_cmp m.parents n.parents) (bools_tied m.rooted n.rooted) (unsigned_ties m.parents n.parents))
    (lists_ties segment_cmp (lists_ties nat_cmp unsigned_ties) m.segments n.segments)

-- the one, or what was there
pub one_more : (s t b : Bool) → s ≡ t → cond t true b ≡ s || b
one_more s true b e = ap (λ x. x || b) (sym e)
one_more s false b e = ap (λ x. x || b) (sym e)

-- ---- the segments from a place on

from_there : (xs : List Segment) (i : ℕ) (x : Segment) → i < length xs → slice_get xs i ≡ Some x → drop i xs ≡ x ∷ drop (i + 1) xs
from_there xs i x within at =
    let there : slice_get xs i ≡ Some (get_or xs i x) = slice_get-get_or xs i x within in
    let is : get_or xs i x ≡ x = cc in
    drop_more xs i x within ∙ ap (λ z. z ∷ drop (i + 1) xs) is

module _ (xs ys : List Segment) (i : ℕ) where
  module _ (x y : Segment) (o : Ordering) (in_xs : i < length xs) (in_ys : i < length ys) (at_xs : slice_get xs i ≡ Some x) (at_ys : slice_get ys i ≡ Some y) (is : o ≡ segment_cmp x y) where
    both_there : path_cmp (drop i xs) (drop i ys) ≡ ordering_then o (path_cmp (drop (i + 1) xs) (drop (i + 1) ys))
    both_there =
        ap (λ us. path_cmp us (drop i ys)) (from_there xs i x in_xs at_xs)
        ∙ ap (path_cmp (x ∷ drop (i + 1) xs)) (from_there ys i y in_ys at_ys)
        ∙ ap (λ p. ordering_then p (path_cmp (drop (i + 1) xs) (drop (i + 1) ys))) (sym is)

    pub goes_on : is_ne o ≡ false → path_cmp (drop (i + 1) xs) (drop (i + 1) ys) ≡ path_cmp (drop i xs) (drop i ys)
    goes_on e = by o e ∙ sym both_there
      where
        by : (p : Ordering) → is_ne p ≡ false → path_cmp (drop (i + 1) xs) (drop (i + 1) ys) ≡ ordering_then p (path_cmp (drop (i + 1) xs) (drop (i + 1) ys))
        by Less e = cc
        by Equal e = refl
        by Greater e = cc

    pub differs : is_ne o ≡ true → o ≡ path_cmp (drop i xs) (drop i ys)
    differs e = by o e ∙ sym both_there
      where
        by : (p : Ordering) → is_ne p ≡ true → p ≡ ordering_then p (path_cmp (drop (i + 1) xs) (drop (i + 1) ys))
        by Less e = refl
        by Equal e = cc
        by Greater e = refl

  -- where one of the two ends
  pub ends : i ≤ length xs → i ≤ length ys → min (length xs) (length ys) ≤ i → nat_cmp (length xs) (length ys) ≡ path_cmp (drop i xs) (drop i ys)
  ends in_xs in_ys end = sym (nat_cmp_is (length xs) (length ys) (path_cmp (drop i xs) (drop i ys)) (by (drop i xs) (drop i ys) (length-drop i xs) (length-drop i ys)))
    where
      by : (us vs : List Segment) → length us ≡ length xs - i → length vs ≡ length ys - i
          → MatchOrdering (path_cmp us vs) (length xs < length ys) (length xs ≡ length ys) (length ys < length xs)
      by [] [] a b = omega (arith, a, b, in_xs, in_ys, end)
      by [] (v ∷ vs) a b = omega (arith, a, b, in_xs, in_ys, end)
      by (u ∷ us) [] a b = omega (arith, a, b, in_xs, in_ys, end)
      by (u ∷ us) (v ∷ vs) a b = absurd (omega (arith, a, b, in_xs, in_ys, end))
