-- An SSDT that is noted at its paths, one after another.
use Rattle.std.proofs.Common.{◌≡◌, ◌⊎◌, inl, inr, ℕ, ◌<◌, List, [], ◌∷◌, ◌++◌, map, Option, Some, None, refl, sym, ap, subst, ◌∙◌, append_assoc, arith}
use Rattle.std.specs.FinMap.{get}
use Rattle.std.specs.List.{AllByRecursion}
use Rattle.acpi_name.specs.Names.{Segment}
use Rattle.acpi_space.proofs.Elements.{not_both, one_some}
use Rattle.acpi_verdict.specs.declared.clashes.Clash.{Clash}
use Rattle.acpi_verdict.specs.declared.ssdt_paths.SsdtPaths.{SsdtPaths}
use Rattle.acpi_verdict.specs.declared.definers.Definer.{Definer}
use Rattle.acpi_verdict.specs.declared.definers.Definers.{Definers}
use Rattle.acpi_verdict.specs.steps.Clashing.{IsAt, Offers}
use Rattle.acpi_verdict.specs.steps.Defining.{IsNoted, AddsDefiner}
use Rattle.acpi_verdict.specs.steps.Declaring.{with_args, args_in, IsNewAt, IsSameAt, AddsSsdt}
use Rattle.acpi_verdict.specs.steps.Overlays.{OverlayTree}
use Rattle.acpi_verdict.proofs.Offers.{offers_none, offers_same, offers_both}

pub same_definer : (x y : Definer) → x.number ≡ y.number → x.args ≡ y.args → x ≡ y
same_definer x y e f = λ i. record { number = e i; args = f i }

-- ---- one path

module _ (x : Definer) (p : List Segment) where
  to_new : (q : List Segment) (y : Definer) → (p ≡ q) × (x ≡ y) → IsNewAt x.number (p ∷ []) (λ r. x.args) q y
  to_new q y (e, f) = (inl e, ap (λ (z : Definer). z.number) f, ap (λ (z : Definer). z.args) f)

  of_new : (q : List Segment) (y : Definer) → IsNewAt x.number (p ∷ []) (λ r. x.args) q y → (p ≡ q) × (x ≡ y)
  of_new q y (inl e, n, a) = (e, same_definer x y n a)
  of_new q y (inr m, n, a) = absurd m

  pub one_added : (old new : SsdtPaths) → AddsDefiner old.definers new.definers p x → Offers old.same new.same (IsSameAt x.number (p ∷ []) old.definers)
      → AddsSsdt x.number (p ∷ []) (λ r. x.args) old new
  one_added old new h same = record {
    noted = λ q y. ((λ k. noted_to q y ((h.noted q y).0 k)), (λ k. (h.noted q y).1 (noted_from q y k)));
    firsts = λ q y. ((λ k. firsts_to q y ((h.firsts q y).0 k)), (λ k. (h.firsts q y).1 (firsts_from q y k)));
    same = same;
  }
    where
      noted_to : (q : List Segment) (y : Definer) → IsNoted old.definers q y ⊎ ((p ≡ q) × (x ≡ y)) → IsNoted old.definers q y ⊎ IsNewAt x.number (p ∷ []) (λ r. x.args) q y
      noted_to q y (inl k) = inl k
      noted_to q y (inr k) = inr (to_new q y k)

      noted_from : (q : List Segment) (y : Definer) → IsNoted old.definers q y ⊎ IsNewAt x.number (p ∷ []) (λ r. x.args) q y → IsNoted old.definers q y ⊎ ((p ≡ q) × (x ≡ y))
      noted_from q y (inl k) = inl k
      noted_from q y (inr k) = inr (of_new q y k)

      firsts_to : (q : List Segment) (y : Definer) → (get old.definers.first q ≡ Some y) ⊎ ((get old.definers.first q ≡ None) × (p ≡ q) × (x ≡ y))
          → (get old.definers.first q ≡ Some y) ⊎ ((get old.definers.first q ≡ None) × IsNewAt x.number (p ∷ []) (λ r. x.args) q y)
      firsts_to q y (inl e) = inl e
      firsts_to q y (inr (none, e, f)) = inr (none, to_new q y (e, f))

      firsts_from : (q : List Segment) (y : Definer) → (get old.definers.first q ≡ Some y) ⊎ ((get old.definers.first q ≡ None) × IsNewAt x.number (p ∷ []) (λ r. x.args) q y)
          → (get old.definers.first q ≡ Some y) ⊎ ((get old.definers.first q ≡ None) × (p ≡ q) × (x ≡ y))
      firsts_from q y (inl e) = inl e
      firsts_from q y (inr (none, k)) = let r = of_new q y k in inr (none, r.0, r.1)

-- where two declare it
module _ (number : ℕ) (p : List Segment) (d : Definers) where
  pub same_free : (o : Option Clash) → get d.first p ≡ None → Offers o o (IsSameAt number (p ∷ []) d)
  same_free o none = offers_none (IsSameAt number (p ∷ []) d) o by
    where
      by : (i j : ℕ) (q : List Segment) → IsSameAt number (p ∷ []) d i j q → ⊥
      by i j q (n, less, inl e, x, is, k) = not_both (get d.first p) x (subst (λ (r : List Segment). get d.first r ≡ Some x) (sym e) is) none
      by i j q (n, less, inr m, x, is, k) = absurd m

  module _ (f : Definer) (there : get d.first p ≡ Some f) where
    is_first : (q : List Segment) (x : Definer) → p ≡ q → get d.first q ≡ Some x → f ≡ x
    is_first q x e is = one_some f x (sym there ∙ subst (λ (r : List Segment). get d.first r ≡ Some x) (sym e) is)

    pub same_own : (o : Option Clash) → (f.number < number → ⊥) → Offers o o (IsSameAt number (p ∷ []) d)
    same_own o own = offers_none (IsSameAt number (p ∷ []) d) o by
      where
        by : (i j : ℕ) (q : List Segment) → IsSameAt number (p ∷ []) d i j q → ⊥
        by i j q (n, less, inl e, x, is, k) = let same = ap (λ (z : Definer). z.number) (is_first q x e is) in own (omega arith)
        by i j q (n, less, inr m, x, is, k) = absurd m

    pub same_found : (old new : Option Clash) → f.number < number → Offers old new (IsAt f.number number p) → Offers old new (IsSameAt number (p ∷ []) d)
    same_found old new less = offers_same (IsAt f.number number p) (IsSameAt number (p ∷ []) d) old new to from
      where
        to : (i j : ℕ) (q : List Segment) → IsAt f.number number p i j q → IsSameAt number (p ∷ []) d i j q
        to i j q (e, n, same) = (n, omega arith, inl same, f, subst (λ (r : List Segment). get d.first r ≡ Some f) same there, e)

        from : (i j : ℕ) (q : List Segment) → IsSameAt number (p ∷ []) d i j q → IsAt f.number number p i j q
        from i j q (n, more, inl e, x, is, k) = (ap (λ (z : Definer). z.number) (is_first q x e is) ∙ k, n, e)
        from i j q (n, more, inr m, x, is, k) = absurd m

-- ---- several paths

pub none_added : (number : ℕ) (args : List Segment → Option ℕ) (d : SsdtPaths) → AddsSsdt number [] args d d
none_added number args d = record {
  noted = λ q y. ((λ k. inl k), noted_from q y);
  firsts = λ q y. ((λ k. inl k), firsts_from q y);
  same = offers_none (IsSameAt number [] d.definers) d.same (λ i j q h. h.2);
}
  where
    noted_from : (q : List Segment) (y : Definer) → IsNoted d.definers q y ⊎ IsNewAt number [] args q y → IsNoted d.definers q y
    noted_from q y (inl k) = k
    noted_from q y (inr k) = absurd k.0

    firsts_from : (q : List Segment) (y : Definer) → (get d.definers.first q ≡ Some y) ⊎ ((get d.definers.first q ≡ None) × IsNewAt number [] args q y)
        → get d.definers.first q ≡ Some y
    firsts_from q y (inl k) = k
    firsts_from q y (inr (none, k)) = absurd k.0

module _ (number : ℕ) (args : List Segment → Option ℕ) (p : List Segment) (ps : List (List Segment)) (old mid new : SsdtPaths)
    (one : AddsSsdt number (p ∷ []) (λ r. args p) old mid) (rest : AddsSsdt number ps args mid new) where
  abbrev Here : List Segment → Definer → Type 0
  Here = IsNewAt number (p ∷ []) (λ r. args p)

  abbrev All : List Segment → Definer → Type 0
  All = IsNewAt number (p ∷ ps) args

  here_all : (q : List Segment) (y : Definer) → Here q y → All q y
  here_all q y (inl e, n, a) = (inl e, n, ap args (sym e) ∙ a)
  here_all q y (inr m, n, a) = absurd m

  rest_all : (q : List Segment) (y : Definer) → IsNewAt number ps args q y → All q y
  rest_all q y (m, n, a) = (inr m, n, a)

  all_parts : (q : List Segment) (y : Definer) → All q y → Here q y ⊎ IsNewAt number ps args q y
  all_parts q y (inl e, n, a) = inl (inl e, n, ap args e ∙ a)
  all_parts q y (inr m, n, a) = inr (m, n, a)

  noted_to : (q : List Segment) (y : Definer) → IsNoted new.definers q y → IsNoted old.definers q y ⊎ All q y
  noted_to q y k = by ((rest.noted q y).0 k)
    where
      before : IsNoted old.definers q y ⊎ Here q y → IsNoted old.definers q y ⊎ All q y
      before (inl x) = inl x
      before (inr x) = inr (here_all q y x)

      by : IsNoted mid.definers q y ⊎ IsNewAt number ps args q y → IsNoted old.definers q y ⊎ All q y
      by (inl x) = before ((one.noted q y).0 x)
      by (inr x) = inr (rest_all q y x)

  noted_from : (q : List Segment) (y : Definer) → IsNoted old.definers q y ⊎ All q y → IsNoted new.definers q y
  noted_from q y (inl k) = (rest.noted q y).1 (inl ((one.noted q y).1 (inl k)))
  noted_from q y (inr k) = by (all_parts q y k)
    where
      by : Here q y ⊎ IsNewAt number ps args q y → IsNoted new.definers q y
      by (inl x) = (rest.noted q y).1 (inl ((one.noted q y).1 (inr x)))
      by (inr x) = (rest.noted q y).1 (inr x)

  -- what is free in the middle was free before
  free_before : (q : List Segment) → get mid.definers.first q ≡ None → get old.definers.first q ≡ None
  free_before q none = by (get old.definers.first q) refl
    where
      by : (o : Option Definer) → get old.definers.first q ≡ o → o ≡ None
      by None e = refl
      by (Some z) e = absurd (not_both (get mid.definers.first q) z ((one.firsts q z).1 (inl e)) none)

  abbrev First : SsdtPaths → List Segment → Definer → Type 0
  First d q y = get d.definers.first q ≡ Some y

  firsts_to : (q : List Segment) (y : Definer) → First new q y → First old q y ⊎ ((get old.definers.first q ≡ None) × All q y)
  firsts_to q y k = by ((rest.firsts q y).0 k)
    where
      before : First old q y ⊎ ((get old.definers.first q ≡ None) × Here q y) → First old q y ⊎ ((get old.definers.first q ≡ None) × All q y)
      before (inl x) = inl x
      before (inr (none, x)) = inr (none, here_all q y x)

      by : First mid q y ⊎ ((get mid.definers.first q ≡ None) × IsNewAt number ps args q y) → First old q y ⊎ ((get old.definers.first q ≡ None) × All q y)
      by (inl x) = before ((one.firsts q y).0 x)
      by (inr (none, x)) = inr (free_before q none, rest_all q y x)

  firsts_from : (q : List Segment) (y : Definer) → First old q y ⊎ ((get old.definers.first q ≡ None) × All q y) → First new q y
  firsts_from q y (inl k) = (rest.firsts q y).1 (inl ((one.firsts q y).1 (inl k)))
  firsts_from q y (inr (none, k)) = by (all_parts q y k)
    where
      in_rest : IsNewAt number ps args q y → (o : Option Definer) → get mid.definers.first q ≡ o → First new q y
      in_rest x None e = (rest.firsts q y).1 (inr (e, x))
      in_rest x (Some z) e = (rest.firsts q y).1 (inl (e ∙ ap (λ (w : Definer). Some w) (is_this ((one.firsts q z).0 e))))
        where
          is_this : First old q z ⊎ ((get old.definers.first q ≡ None) × Here q z) → z ≡ y
          is_this (inl f) = absurd (not_both (get old.definers.first q) z f none)
          is_this (inr (free, h)) = let w = here_all q z h in same_definer z y (sym w.1 ∙ x.1) (sym w.2 ∙ x.2)

      by : Here q y ⊎ IsNewAt number ps args q y → First new q y
      by (inl x) = (rest.firsts q y).1 (inl ((one.firsts q y).1 (inr (none, x))))
      by (inr x) = in_rest x (get mid.definers.first q) refl

  same_to : (i j : ℕ) (q : List Segment) → IsSameAt number (p ∷ []) old.definers i j q ⊎ IsSameAt number ps mid.definers i j q → IsSameAt number (p ∷ ps) old.definers i j q
  same_to i j q (inl (n, less, inl e, x, is, k)) = (n, less, inl e, x, is, k)
  same_to i j q (inl (n, less, inr m, x, is, k)) = absurd m
  same_to i j q (inr (n, less, m, x, is, k)) = by ((one.firsts q x).0 is)
    where
      by : First old q x ⊎ ((get old.definers.first q ≡ None) × Here q x) → IsSameAt number (p ∷ ps) old.definers i j q
      by (inl e) = (n, less, inr m, x, e, k)
      by (inr (none, h)) = let own = h.1 in absurd (omega arith)

  same_from : (i j : ℕ) (q : List Segment) → IsSameAt number (p ∷ ps) old.definers i j q → IsSameAt number (p ∷ []) old.definers i j q ⊎ IsSameAt number ps mid.definers i j q
  same_from i j q (n, less, inl e, x, is, k) = inl (n, less, inl e, x, is, k)
  same_from i j q (n, less, inr m, x, is, k) = inr (n, less, m, x, (one.firsts q x).1 (inl is), k)

  pub more_added : AddsSsdt number (p ∷ ps) args old new
  more_added = record {
    noted = λ q y. (noted_to q y, noted_from q y);
    firsts = λ q y. (firsts_to q y, firsts_from q y);
    same = offers_same (λ i j q. IsSameAt number (p ∷ []) old.definers i j q ⊎ IsSameAt number ps mid.definers i j q) (IsSameAt number (p ∷ ps) old.definers) old.same new.same same_to same_from
        (offers_both (IsSameAt number (p ∷ []) old.definers) (IsSameAt number ps mid.definers) old.same mid.same new.same one.same rest.same);
  }

-- ---- paths with the arguments of their objects

abbrev pub IsWithArgs : OverlayTree → List Segment × Option ℕ → Type 0
IsWithArgs l e = args_in l e.0 ≡ e.1

pub paths_with_args : (l : OverlayTree) (ps : List (List Segment)) → map (λ e. e.0) (map (with_args l) ps) ≡ ps
paths_with_args l [] = refl
paths_with_args l (p ∷ ps) = ap (λ (qs : List (List Segment)). p ∷ qs) (paths_with_args l ps)

pub all_with_args : (l : OverlayTree) (ps : List (List Segment)) → AllByRecursion (IsWithArgs l) (map (with_args l) ps)
all_with_args l [] = tt
all_with_args l (p ∷ ps) = (refl, all_with_args l ps)

-- one path more with its arguments
pub one_with_args : (l : OverlayTree) (p : List Segment) (a : Option ℕ) (found now all : List (List Segment × Option ℕ)) (ps later : List (List Segment))
    → now ≡ found ++ (p, a) ∷ [] → a ≡ args_in l p → ps ≡ p ∷ later → found ++ map (with_args l) ps ≡ all → now ++ map (with_args l) later ≡ all
one_with_args l p a found now all ps later put same front before =
    ap (λ (xs : List (List Segment × Option ℕ)). xs ++ map (with_args l) later) put
    ∙ append_assoc found ((p, a) ∷ []) (map (with_args l) later)
    ∙ ap (λ (b : Option ℕ). found ++ ((p, b) ∷ map (with_args l) later)) same
    ∙ ap (λ (qs : List (List Segment)). found ++ map (with_args l) qs) (sym front)
    ∙ before
