-- Comparisons that say equal.
use Rattle.std.proofs.Common.{◌≡◌, ◌≢◌, ℕ, Bool, true, false, ◌&&◌, List, [], ◌∷◌, nat_eq, refl, arith}
use Rattle.std.proofs.lemmas.Bool.Decides.{nat_tests}
use Rattle.std.specs.declared.cmp.Ordering.{Ordering}
use Rattle.std.specs.declared.cmp.Ordering.TheVariants.{Less, Equal, Greater}
use Rattle.std.specs.Ordering.{is_eq}
use Rattle.std.specs.List.Sorted.{IsStrictlySortedBy}
use Rattle.std.specs.Cmp.{eq_by_cmp_equiv}
use Rattle.std.specs.Cmp.Lexicographic.{nat_list_cmp_total, pointwise}
use Rattle.std.specs.FinMap.{slice_cmp-IsAntisymmetric, nat_cmp-IsAntisymmetric}
use Rattle.acpi_name.specs.Names.{Segment}
use Rattle.acpi_name.specs.Paths.{segment_cmp, path_cmp}
use Rattle.acpi_name.specs.steps.PathOrder.{path_cmp_total, path_cmp-IsAntisymmetric}

pub same_number : (a b : ℕ) → nat_eq a b ≡ true → a ≡ b
same_number a b e = grind (arith, nat_tests)

pub eq_of : (o : Ordering) → is_eq o ≡ true → o ≡ Equal
eq_of Less e = cc
eq_of Equal e = refl
eq_of Greater e = cc

pub same_segment : (g h : Segment) → is_eq (segment_cmp g h) ≡ true → g ≡ h
same_segment g h e = slice_cmp-IsAntisymmetric nat_cmp-IsAntisymmetric g h (eq_of _ e)

pub same_bytes : (g h : Segment) → pointwise nat_eq g h ≡ true → g ≡ h
same_bytes [] [] e = refl
same_bytes [] (y ∷ h) e = cc
same_bytes (x ∷ g) [] e = cc
same_bytes (x ∷ g) (y ∷ h) e = by (nat_eq x y) refl e (same_bytes g h)
  where
    by : (b : Bool) → nat_eq x y ≡ b → b && pointwise nat_eq g h ≡ true → (pointwise nat_eq g h ≡ true → g ≡ h) → x ∷ g ≡ y ∷ h
    by true f e ih = let first : x ≡ y = same_number x y f in let rest : g ≡ h = ih e in (λ i. first i ∷ rest i)
    by false f e ih = cc

pub segment_itself : (g : Segment) → is_eq (segment_cmp g g) ≡ true
segment_itself g = (eq_by_cmp_equiv nat_list_cmp_total).refl g

pub same_path : (p q : List Segment) → is_eq (path_cmp p q) ≡ true → p ≡ q
same_path p q e = path_cmp-IsAntisymmetric p q (eq_of _ e)

pub path_itself : (p : List Segment) → is_eq (path_cmp p p) ≡ true
path_itself p = (eq_by_cmp_equiv path_cmp_total).refl p

pub other_number : (a b : ℕ) → nat_eq a b ≡ false → a ≢ b
other_number a b e = grind (arith, nat_tests)

pub segment_turned : (g h : Segment) → is_eq (segment_cmp g h) ≡ is_eq (segment_cmp h g)
segment_turned g h = (eq_by_cmp_equiv nat_list_cmp_total).symm g h

-- one segment ascends
pub one_ascends : (g : Segment) → IsStrictlySortedBy segment_cmp (g ∷ [])
unfolding IsStrictlySortedBy
one_ascends g = (tt, tt)
