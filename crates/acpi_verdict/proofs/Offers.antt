-- The least of the clashes that are offered.
use Rattle.std.proofs.Common.{◌≡◌, ◌⊎◌, inl, inr, ℕ, ◌<◌, Bool, true, false, List, Option, Some, None, refl, sym, ap, subst, ◌∙◌, arith}
use Rattle.std.specs.declared.cmp.Ordering.{Ordering}
use Rattle.std.specs.declared.cmp.Ordering.TheVariants.{Less, Equal, Greater}
use Rattle.std.specs.Ordering.{is_lt, nat_cmp, ordering_then, ordering_reverse}
use Rattle.std.proofs.lemmas.Bool.Decides.{nat_tests}
use Rattle.acpi_name.specs.Names.{Segment}
use Rattle.acpi_name.specs.Paths.{path_cmp}
use Rattle.acpi_name.specs.steps.PathOrder.{path_cmp_total, path_cmp-IsAntisymmetric}
use Rattle.acpi_order.specs.Verdicts.{IsBefore}
use Rattle.acpi_verdict.specs.declared.clashes.Clash.{Clash}
use Rattle.acpi_verdict.specs.steps.Clashing.{Clashes, clash_cmp, is_earlier, IsAt, IsClashAt, IsLeastOf, Offers}

-- ---- what is before, or there

abbrev pub IsUpTo : (i j : ℕ) (p : List Segment) (a b : ℕ) (q : List Segment) → Type 0
IsUpTo i j p a b q = IsBefore i j p a b q ⊎ IsAt i j p a b q

pub before_before : (i j : ℕ) (p : List Segment) (a b : ℕ) (q : List Segment) (c d : ℕ) (r : List Segment) → IsBefore i j p a b q → IsBefore a b q c d r → IsBefore i j p c d r
before_before i j p a b q c d r (inl x) (inl y) = inl (omega arith)
before_before i j p a b q c d r (inl x) (inr (inl y)) = let e = y.0 in inl (omega arith)
before_before i j p a b q c d r (inl x) (inr (inr y)) = let e = y.0 in inl (omega arith)
before_before i j p a b q c d r (inr (inl x)) (inl y) = let e = x.0 in inl (omega arith)
before_before i j p a b q c d r (inr (inl x)) (inr (inl y)) = let less = x.1 in let more = y.1 in inr (inl (x.0 ∙ y.0, omega arith))
before_before i j p a b q c d r (inr (inl x)) (inr (inr y)) = let less = x.1 in let e = y.1 in inr (inl (x.0 ∙ y.0, omega arith))
before_before i j p a b q c d r (inr (inr x)) (inl y) = let e = x.0 in inl (omega arith)
before_before i j p a b q c d r (inr (inr x)) (inr (inl y)) = let e = x.1 in let more = y.1 in inr (inl (x.0 ∙ y.0, omega arith))
before_before i j p a b q c d r (inr (inr x)) (inr (inr y)) = inr (inr (x.0 ∙ y.0, x.1 ∙ y.1, path_cmp_total.trans p q r x.2 y.2))

pub up_to_before : (i j : ℕ) (p : List Segment) (a b : ℕ) (q : List Segment) (c d : ℕ) (r : List Segment) → IsUpTo i j p a b q → IsBefore a b q c d r → IsBefore i j p c d r
up_to_before i j p a b q c d r (inl x) h = before_before i j p a b q c d r x h
up_to_before i j p a b q c d r (inr x) h =
    subst (λ (n : ℕ). IsBefore n j p c d r) (sym x.0) (subst (λ (n : ℕ). IsBefore a n p c d r) (sym x.1) (subst (λ (s : List Segment). IsBefore a b s c d r) (sym x.2) h))

-- ---- the comparison

nat_less : (a b : ℕ) → nat_cmp a b ≡ Less → a < b
nat_less a b e = grind (arith, nat_tests)

nat_same : (a b : ℕ) → nat_cmp a b ≡ Equal → a ≡ b
nat_same a b e = grind (arith, nat_tests)

nat_more : (a b : ℕ) → nat_cmp a b ≡ Greater → b < a
nat_more a b e = grind (arith, nat_tests)

path_more : (p q : List Segment) → path_cmp p q ≡ Greater → path_cmp q p ≡ Less
path_more p q e = path_cmp_total.antisymm q p ∙ ap ordering_reverse e

module _ (i j : ℕ) (p : List Segment) (a b : ℕ) (q : List Segment) where
  pub earlier_is : is_lt (clash_cmp i j p a b q) ≡ true → IsBefore i j p a b q
  earlier_is = by (nat_cmp i a) (nat_cmp j b) (path_cmp p q) refl refl refl
    where
      by : (x y z : Ordering) → nat_cmp i a ≡ x → nat_cmp j b ≡ y → path_cmp p q ≡ z → is_lt (ordering_then (ordering_then x y) z) ≡ true → IsBefore i j p a b q
      by Less y z e f g h = inl (nat_less i a e)
      by Equal Less z e f g h = inr (inl (nat_same i a e, nat_less j b f))
      by Equal Equal Less e f g h = inr (inr (nat_same i a e, nat_same j b f, g))
      by Equal Equal Equal e f g h = cc
      by Equal Equal Greater e f g h = cc
      by Equal Greater z e f g h = cc
      by Greater y z e f g h = cc

  pub not_earlier_is : is_lt (clash_cmp i j p a b q) ≡ false → IsUpTo a b q i j p
  not_earlier_is = by (nat_cmp i a) (nat_cmp j b) (path_cmp p q) refl refl refl
    where
      by : (x y z : Ordering) → nat_cmp i a ≡ x → nat_cmp j b ≡ y → path_cmp p q ≡ z → is_lt (ordering_then (ordering_then x y) z) ≡ false → IsUpTo a b q i j p
      by Less y z e f g h = cc
      by Equal Less z e f g h = cc
      by Equal Equal Less e f g h = cc
      by Equal Equal Equal e f g h = inr (sym (nat_same i a e), sym (nat_same j b f), sym (path_cmp-IsAntisymmetric p q g))
      by Equal Equal Greater e f g h = inl (inr (inr (sym (nat_same i a e), sym (nat_same j b f), path_more p q g)))
      by Equal Greater z e f g h = inl (inr (inl (sym (nat_same i a e), nat_more j b f)))
      by Greater y z e f g h = inl (inl (nat_more i a e))

not_before_itself : (i j : ℕ) (p : List Segment) → IsBefore i j p i j p → ⊥
not_before_itself i j p (inl x) = absurd (omega arith)
not_before_itself i j p (inr (inl x)) = let less = x.1 in absurd (omega arith)
not_before_itself i j p (inr (inr x)) =
    let less : path_cmp p p ≡ Less = x.2 in
    let more : path_cmp p p ≡ Greater = path_cmp_total.antisymm p p ∙ ap ordering_reverse less in
    let never : ⊥ = cc in
    never

-- ---- the least

-- what is least of some is least of others, where the others are among them and each of them is one of the others or behind one
module _ (H K : Clashes) (to : (i j : ℕ) (p : List Segment) → H i j p → K i j p)
    (from : (i j : ℕ) (p : List Segment) → K i j p → (a : ℕ) × (b : ℕ) × (q : List Segment) × H a b q × IsUpTo a b q i j p) where
  pub least_covers : (o : Option Clash) → IsLeastOf H o → IsLeastOf K o
  least_covers None none = λ i j p k. let r = from i j p k in none r.0 r.1 r.2 r.3
  least_covers (Some c) least = record {
    holds = to c.first c.second c.path least.holds;
    none_before = λ a b q k before.
        let r = from a b q k in least.none_before r.0 r.1 r.2 r.3 (up_to_before r.0 r.1 r.2 a b q c.first c.second c.path r.4 before);
  }

pub least_same : (H K : Clashes) → ((i j : ℕ) (p : List Segment) → H i j p → K i j p) → ((i j : ℕ) (p : List Segment) → K i j p → H i j p)
    → (o : Option Clash) → IsLeastOf H o → IsLeastOf K o
least_same H K to from = least_covers H K to (λ i j p k. (i, j, p, from i j p k, inr (refl, refl, refl)))

-- ---- offers

-- what was least before is the least of the old and of what is offered
pub least_offered : (H K : Clashes) (old new : Option Clash) → IsLeastOf H old → Offers old new K → IsLeastOf (λ i j p. H i j p ⊎ K i j p) new
least_offered H K None new none h =
    least_same (λ i j p. IsClashAt None i j p ⊎ K i j p) (λ i j p. H i j p ⊎ K i j p) to from new h
  where
    to : (i j : ℕ) (p : List Segment) → IsClashAt None i j p ⊎ K i j p → H i j p ⊎ K i j p
    to i j p (inl x) = absurd x
    to i j p (inr x) = inr x

    from : (i j : ℕ) (p : List Segment) → H i j p ⊎ K i j p → IsClashAt None i j p ⊎ K i j p
    from i j p (inl x) = absurd (none i j p x)
    from i j p (inr x) = inr x
least_offered H K (Some c) new least h =
    least_covers (λ i j p. IsClashAt (Some c) i j p ⊎ K i j p) (λ i j p. H i j p ⊎ K i j p) to from new h
  where
    moved : (i j : ℕ) (p : List Segment) → IsAt c.first c.second c.path i j p → H i j p
    moved i j p x =
        subst (λ (n : ℕ). H n j p) x.0 (subst (λ (n : ℕ). H c.first n p) x.1 (subst (λ (s : List Segment). H c.first c.second s) x.2 least.holds))

    to : (i j : ℕ) (p : List Segment) → IsClashAt (Some c) i j p ⊎ K i j p → H i j p ⊎ K i j p
    to i j p (inl x) = inl (moved i j p x)
    to i j p (inr x) = inr x

    from : (i j : ℕ) (p : List Segment) → H i j p ⊎ K i j p → (a : ℕ) × (b : ℕ) × (q : List Segment) × (IsClashAt (Some c) a b q ⊎ K a b q) × IsUpTo a b q i j p
    from i j p (inr x) = (i, j, p, inr x, inr (refl, refl, refl))
    from i j p (inl x) = by (is_lt (clash_cmp i j p c.first c.second c.path)) refl
      where
        by : (e : Bool) → is_lt (clash_cmp i j p c.first c.second c.path) ≡ e → (a : ℕ) × (b : ℕ) × (q : List Segment) × (IsClashAt (Some c) a b q ⊎ K a b q) × IsUpTo a b q i j p
        by true e = absurd (least.none_before i j p x (earlier_is i j p c.first c.second c.path e))
        by false e = (c.first, c.second, c.path, inl (refl, refl, refl), not_earlier_is i j p c.first c.second c.path e)

-- what holds of none is offered
pub offers_none : (H : Clashes) (o : Option Clash) → ((i j : ℕ) (p : List Segment) → H i j p → ⊥) → Offers o o H
offers_none H None none = by
  where
    by : (i j : ℕ) (p : List Segment) → IsClashAt None i j p ⊎ H i j p → ⊥
    by i j p (inl x) = absurd x
    by i j p (inr x) = none i j p x
offers_none H (Some c) none = record { holds = inl (refl, refl, refl); none_before = before }
  where
    before : (a b : ℕ) (q : List Segment) → IsClashAt (Some c) a b q ⊎ H a b q → IsBefore a b q c.first c.second c.path → ⊥
    before a b q (inl x) less =
        not_before_itself c.first c.second c.path (up_to_before c.first c.second c.path a b q c.first c.second c.path (inr x) less)
    before a b q (inr x) less = none a b q x

pub offers_same : (H K : Clashes) (old new : Option Clash) → ((i j : ℕ) (p : List Segment) → H i j p → K i j p) → ((i j : ℕ) (p : List Segment) → K i j p → H i j p)
    → Offers old new H → Offers old new K
offers_same H K old new to from h =
    least_same (λ i j p. IsClashAt old i j p ⊎ H i j p) (λ i j p. IsClashAt old i j p ⊎ K i j p) (λ i j p. there i j p) (λ i j p. back i j p) new h
  where
    there : (i j : ℕ) (p : List Segment) → IsClashAt old i j p ⊎ H i j p → IsClashAt old i j p ⊎ K i j p
    there i j p (inl x) = inl x
    there i j p (inr x) = inr (to i j p x)

    back : (i j : ℕ) (p : List Segment) → IsClashAt old i j p ⊎ K i j p → IsClashAt old i j p ⊎ H i j p
    back i j p (inl x) = inl x
    back i j p (inr x) = inr (from i j p x)

-- one offer after another
pub offers_both : (H K : Clashes) (old mid new : Option Clash) → Offers old mid H → Offers mid new K → Offers old new (λ i j p. H i j p ⊎ K i j p)
offers_both H K old mid new h k =
    least_same (λ i j p. (IsClashAt old i j p ⊎ H i j p) ⊎ K i j p) (λ i j p. IsClashAt old i j p ⊎ (H i j p ⊎ K i j p)) there back new
    (least_offered (λ i j p. IsClashAt old i j p ⊎ H i j p) K mid new h k)
  where
    there : (i j : ℕ) (p : List Segment) → (IsClashAt old i j p ⊎ H i j p) ⊎ K i j p → IsClashAt old i j p ⊎ (H i j p ⊎ K i j p)
    there i j p (inl (inl x)) = inl x
    there i j p (inl (inr x)) = inr (inl x)
    there i j p (inr x) = inr (inr x)

    back : (i j : ℕ) (p : List Segment) → IsClashAt old i j p ⊎ (H i j p ⊎ K i j p) → (IsClashAt old i j p ⊎ H i j p) ⊎ K i j p
    back i j p (inl x) = inl (inl x)
    back i j p (inr (inl x)) = inl (inr x)
    back i j p (inr (inr x)) = inr x

-- ---- one that is offered

module _ (o : Option Clash) (i j : ℕ) (p : List Segment) where
  pub offered : is_earlier o i j p ≡ true → (c : Clash) → c.first ≡ i → c.second ≡ j → c.path ≡ p → Offers o (Some c) (IsAt i j p)
  offered e c is_first is_second is_path = record { holds = inr (sym is_first, sym is_second, sym is_path); none_before = λ a b q h before. by o e a b q h (here a b q before) }
    where
      here : (a b : ℕ) (q : List Segment) → IsBefore a b q c.first c.second c.path → IsBefore a b q i j p
      here a b q h =
          subst (λ (n : ℕ). IsBefore a b q n j p) is_first (subst (λ (n : ℕ). IsBefore a b q c.first n p) is_second (subst (λ (s : List Segment). IsBefore a b q c.first c.second s) is_path h))

      at : (a b : ℕ) (q : List Segment) → IsAt i j p a b q → IsBefore a b q i j p → ⊥
      at a b q x less = not_before_itself i j p (up_to_before i j p a b q i j p (inr x) less)

      by : (o : Option Clash) → is_earlier o i j p ≡ true → (a b : ℕ) (q : List Segment) → IsClashAt o a b q ⊎ IsAt i j p a b q → IsBefore a b q i j p → ⊥
      by None e a b q (inl x) less = absurd x
      by (Some d) e a b q (inl x) less =
          not_before_itself i j p
          (before_before i j p a b q i j p (back_of d a b q x (earlier_is i j p d.first d.second d.path e)) less)
        where
          back_of : (d : Clash) (a b : ℕ) (q : List Segment) → IsAt d.first d.second d.path a b q → IsBefore i j p d.first d.second d.path → IsBefore i j p a b q
          back_of d a b q x h =
              subst (λ (n : ℕ). IsBefore i j p n b q) x.0 (subst (λ (n : ℕ). IsBefore i j p d.first n q) x.1 (subst (λ (s : List Segment). IsBefore i j p d.first d.second s) x.2 h))
      by o e a b q (inr x) less = at a b q x less

  pub not_offered : is_earlier o i j p ≡ false → Offers o o (IsAt i j p)
  not_offered e = by o e
    where
      by : (o : Option Clash) → is_earlier o i j p ≡ false → Offers o o (IsAt i j p)
      by None e = cc
      by (Some d) e = record { holds = inl (refl, refl, refl); none_before = before }
        where
          before : (a b : ℕ) (q : List Segment) → IsClashAt (Some d) a b q ⊎ IsAt i j p a b q → IsBefore a b q d.first d.second d.path → ⊥
          before a b q (inl x) less = not_before_itself d.first d.second d.path (up_to_before d.first d.second d.path a b q d.first d.second d.path (inr x) less)
          before a b q (inr x) less =
              not_before_itself i j p
              (up_to_before i j p a b q i j p (inr x) (after (not_earlier_is i j p d.first d.second d.path e)))
            where
              after : IsUpTo d.first d.second d.path i j p → IsBefore a b q i j p
              after (inl k) = before_before a b q d.first d.second d.path i j p less k
              after (inr k) =
                  subst (λ (n : ℕ). IsBefore a b q n j p) k.0 (subst (λ (n : ℕ). IsBefore a b q d.first n p) k.1 (subst (λ (s : List Segment). IsBefore a b q d.first d.second s) k.2 less))
