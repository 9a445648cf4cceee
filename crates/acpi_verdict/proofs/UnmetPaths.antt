-- The clashes of a searcher with those that declare what it missed.
use Rattle.std.proofs.Common.{◌≡◌, ◌≢◌, ◌⊎◌, inl, inr, ℕ, false, List, [], ◌∷◌, Some, None, sym, ap, subst, ◌∙◌}
use Rattle.std.specs.Prelude.{IsTrue}
use Rattle.std.specs.FinMap.{get, keys, entries}
use Rattle.acpi_name.specs.Names.{Segment}
use Rattle.acpi_space.specs.Laws.{Among}
use Rattle.acpi_space.specs.Spaces.{PathMap, is_defined}
use Rattle.acpi_space.proofs.Keys.{key_is}
use Rattle.acpi_space.proofs.Elements.{not_both, one_some}
use Rattle.acpi_verdict.specs.declared.clashes.Clash.{Clash}
use Rattle.std.specs.Prelude.{Option}
use Rattle.acpi_verdict.specs.declared.definers.Definer.{Definer}
use Rattle.acpi_verdict.specs.steps.Clashing.{IsAt, Offers}
use Rattle.acpi_verdict.specs.steps.Defining.{takes}
use Rattle.acpi_verdict.specs.steps.Finding.{IsFirstOther, IsMissedOf, IsAwaitedOf, IsUnmetOf}
use Rattle.acpi_verdict.specs.declared.misses.Misses.{Misses}
use Rattle.acpi_verdict.proofs.Offers.{offers_none, offers_same, offers_both}
use Rattle.acpi_verdict.proofs.PathSets.{pair_is}

-- something else than what is awaited there
abbrev pub IsOther : List (List Segment × ℕ) → List Segment → Definer → Type 0
IsOther es q x = (n : ℕ) × Among es (q, n) × (takes x n ≡ false)

-- what is said of one path alone
pub only_path : (p q : List Segment) → Among (p ∷ []) q → p ≡ q
only_path p q (inl e) = e
only_path p q (inr m) = absurd m

pub only_pair : (p : List Segment) (n : ℕ) (q : List Segment) (x : Definer) → IsOther ((p, n) ∷ []) q x → p ≡ q
only_pair p n q x (k, inl e, fails) = ap (λ (z : List Segment × ℕ). z.0) e
only_pair p n q x (k, inr m, fails) = absurd m

pub only_count : (p : List Segment) (n : ℕ) (x : Definer) → IsOther ((p, n) ∷ []) p x → takes x n ≡ false
only_count p n x (k, inl e, fails) = ap (takes x) (ap (λ (z : List Segment × ℕ). z.1) e) ∙ fails
only_count p n x (k, inr m, fails) = absurd m

module _ (firsts : PathMap Definer) (number : ℕ) where
  -- ---- one path

  module _ (p : List Segment) (P : List Segment → Definer → Type 0) (only : (q : List Segment) (x : Definer) → P q x → p ≡ q) where
    pub first_free : (o : Option Clash) → get firsts p ≡ None → Offers o o (IsFirstOther firsts number P)
    first_free o none = offers_none (IsFirstOther firsts number P) o (λ i j q h.
        let e = only q h.1 h.5 in
        not_both (get firsts p) h.1 (subst (λ (r : List Segment). get firsts r ≡ Some h.1) (sym e) h.2) none)

    module _ (d : Definer) (there : get firsts p ≡ Some d) where
      is_first : (q : List Segment) (x : Definer) → p ≡ q → get firsts q ≡ Some x → d ≡ x
      is_first q x e is = one_some d x (sym there ∙ subst (λ (r : List Segment). get firsts r ≡ Some x) (sym e) is)

      pub first_own : (o : Option Clash) → d.number ≡ number → Offers o o (IsFirstOther firsts number P)
      first_own o own = offers_none (IsFirstOther firsts number P) o (λ i j q h.
          let same = is_first q h.1 (only q h.1 h.5) h.2 in
          h.4 (sym h.3 ∙ ap (λ (z : Definer). z.number) (sym same) ∙ own ∙ h.0))

      pub first_without : (o : Option Clash) → (P p d → ⊥) → Offers o o (IsFirstOther firsts number P)
      first_without o none = offers_none (IsFirstOther firsts number P) o (λ i j q h.
          let e = only q h.1 h.5 in
          let same = is_first q h.1 e h.2 in
          none (subst (P p) (sym same) (subst (λ (r : List Segment). P r h.1) (sym e) h.5)))

      pub first_found : (old new : Option Clash) → d.number ≢ number → P p d → Offers old new (IsAt number d.number p) → Offers old new (IsFirstOther firsts number P)
      first_found old new other holds = offers_same (IsAt number d.number p) (IsFirstOther firsts number P) old new to from
        where
          to : (i j : ℕ) (q : List Segment) → IsAt number d.number p i j q → IsFirstOther firsts number P i j q
          to i j q (e, f, g) = (
            e,
            d,
            subst (λ (r : List Segment). get firsts r ≡ Some d) g there,
            f,
            (λ same. other (f ∙ same ∙ sym e)),
            subst (λ (r : List Segment). P r d) g holds,
          )

          from : (i j : ℕ) (q : List Segment) → IsFirstOther firsts number P i j q → IsAt number d.number p i j q
          from i j q (e, x, is, f, ne, holds) = let same = only q x holds in (e, ap (λ (z : Definer). z.number) (is_first q x same is) ∙ f, same)

  -- ---- several

  pub first_both : (P Q R : List Segment → Definer → Type 0) → ((p : List Segment) (x : Definer) → get firsts p ≡ Some x → P p x ⊎ Q p x → R p x)
      → ((p : List Segment) (x : Definer) → get firsts p ≡ Some x → R p x → P p x ⊎ Q p x) → (old mid new : Option Clash)
      → Offers old mid (IsFirstOther firsts number P) → Offers mid new (IsFirstOther firsts number Q) → Offers old new (IsFirstOther firsts number R)
  first_both P Q R to from old mid new h k =
      offers_same (λ i j p. IsFirstOther firsts number P i j p ⊎ IsFirstOther firsts number Q i j p) (IsFirstOther firsts number R) old new there back
      (offers_both (IsFirstOther firsts number P) (IsFirstOther firsts number Q) old mid new h k)
    where
      there : (i j : ℕ) (p : List Segment) → IsFirstOther firsts number P i j p ⊎ IsFirstOther firsts number Q i j p → IsFirstOther firsts number R i j p
      there i j p (inl (e, x, is, f, ne, holds)) = (e, x, is, f, ne, to p x is (inl holds))
      there i j p (inr (e, x, is, f, ne, holds)) = (e, x, is, f, ne, to p x is (inr holds))

      back : (i j : ℕ) (p : List Segment) → IsFirstOther firsts number R i j p → IsFirstOther firsts number P i j p ⊎ IsFirstOther firsts number Q i j p
      back i j p (e, x, is, f, ne, holds) = by (from p x is holds)
        where
          by : P p x ⊎ Q p x → IsFirstOther firsts number P i j p ⊎ IsFirstOther firsts number Q i j p
          by (inl m) = inl (e, x, is, f, ne, m)
          by (inr m) = inr (e, x, is, f, ne, m)

  pub missed_none : (o : Option Clash) → Offers o o (IsMissedOf firsts number [])
  missed_none o = offers_none (IsMissedOf firsts number []) o (λ i j p h. h.5)

  pub missed_more : (p : List Segment) (ps : List (List Segment)) (old mid new : Option Clash) → Offers old mid (IsMissedOf firsts number (p ∷ [])) → Offers mid new (IsMissedOf firsts number ps)
      → Offers old new (IsMissedOf firsts number (p ∷ ps))
  missed_more p ps = first_both (λ q x. Among (p ∷ []) q) (λ q x. Among ps q) (λ q x. Among (p ∷ ps) q) to (λ q x is m. from q m)
    where
      to : (q : List Segment) (x : Definer) → get firsts q ≡ Some x → Among (p ∷ []) q ⊎ Among ps q → Among (p ∷ ps) q
      to q x is (inl (inl e)) = inl e
      to q x is (inl (inr m)) = absurd m
      to q x is (inr m) = inr m

      from : (q : List Segment) → Among (p ∷ ps) q → Among (p ∷ []) q ⊎ Among ps q
      from q (inl e) = inl (inl e)
      from q (inr m) = inr m

  pub awaited_none : (o : Option Clash) → Offers o o (IsAwaitedOf firsts number [])
  awaited_none o = offers_none (IsAwaitedOf firsts number []) o (λ i j p h. h.5.1)

  pub awaited_more : (e : List Segment × ℕ) (es : List (List Segment × ℕ)) (old mid new : Option Clash) → Offers old mid (IsAwaitedOf firsts number (e ∷ []))
      → Offers mid new (IsAwaitedOf firsts number es) → Offers old new (IsAwaitedOf firsts number (e ∷ es))
  awaited_more e es = first_both (IsOther (e ∷ [])) (IsOther es) (IsOther (e ∷ es)) to (λ q x is m. from q x m)
    where
      to : (q : List Segment) (x : Definer) → get firsts q ≡ Some x → IsOther (e ∷ []) q x ⊎ IsOther es q x → IsOther (e ∷ es) q x
      to q x is (inl (n, inl f, fails)) = (n, inl f, fails)
      to q x is (inl (n, inr m, fails)) = absurd m
      to q x is (inr (n, m, fails)) = (n, inr m, fails)

      from : (q : List Segment) (x : Definer) → IsOther (e ∷ es) q x → IsOther (e ∷ []) q x ⊎ IsOther es q x
      from q x (n, inl f, fails) = inl (n, inl f, fails)
      from q x (n, inr m, fails) = inr (n, m, fails)

  -- ---- what was missed and is awaited

  abbrev IsTried : Misses → List Segment → Definer → Type 0
  IsTried t q x = IsTrue (is_defined t.missed q) ⊎ ((n : ℕ) × (get t.awaited q ≡ Some n) × (takes x n ≡ false))

  pub unmet_both : (t : Misses) (old mid new : Option Clash) → Offers old mid (IsMissedOf firsts number (keys t.missed)) → Offers mid new (IsAwaitedOf firsts number (entries t.awaited))
      → Offers old new (IsUnmetOf firsts number t)
  unmet_both t = first_both (λ q x. Among (keys t.missed) q) (IsOther (entries t.awaited)) (IsTried t) (λ q x is m. to q x m) (λ q x is m. from q x m)
    where
      to : (q : List Segment) (x : Definer) → Among (keys t.missed) q ⊎ IsOther (entries t.awaited) q x → IsTried t q x
      to q x (inl m) = inl ((key_is t.missed q).0 m)
      to q x (inr (n, m, fails)) = inr (n, (pair_is t.awaited q n).0 m, fails)

      from : (q : List Segment) (x : Definer) → IsTried t q x → Among (keys t.missed) q ⊎ IsOther (entries t.awaited) q x
      from q x (inl m) = inl ((key_is t.missed q).1 m)
      from q x (inr (n, e, fails)) = inr (n, (pair_is t.awaited q n).1 e, fails)
