-- At most one verdict is right, and `commute` is that of independent SSDTs.
use Rattle.std.proofs.Common.{◌≡◌, ◌≢◌, ◌↔◌, ℕ, zero, suc, ◌<◌, Bool, true, false, List, [], ◌∷◌, Some, None, IsTrue, ◌⊎◌, inl, inr, refl, sym, ap, subst, ◌∙◌, arith}
use Rattle.std.specs.declared.cmp.Ordering.{Ordering}
use Rattle.std.specs.declared.cmp.Ordering.TheVariants.{Less, Equal, Greater}
use Rattle.std.specs.List.{AllByRecursion}
use Rattle.std.specs.Ordering.{ordering_reverse}
use Rattle.acpi_name.specs.Names.{Segment}
use Rattle.acpi_name.specs.Paths.{path_cmp}
use Rattle.acpi_name.specs.steps.PathOrder.{path_cmp_total, path_cmp-IsAntisymmetric}
use Rattle.acpi_space.proofs.Elements.{none_of, not_both}
use Rattle.acpi_tree.specs.Objects.{ObjectTree}
use Rattle.acpi_declare.specs.Listing.{objects_of}
use Rattle.acpi_declare.specs.declared.fault.LoadReason.{LoadReason}
use Rattle.acpi_declare.specs.declared.fault.LoadFault.TheVariants.{At}
use Rattle.acpi_declare.proofs.Refusals.{refused_has_no_load}
use Rattle.acpi_order.specs.Misses.{Listing, IsMiss, IsAwaited}
use Rattle.acpi_order.specs.Independent.{StandsAt, AreSingleListings, LoadsAlone, is_method_of, AreApart, IsIndependent}
use Rattle.acpi_order.specs.Verdicts.{VerdictTree, commute, not_alone, same, missed, IsSsdt, DsdtLoads, AllAlone, IsFirstNotAlone, IsReasonAt, IsBefore, IsPairBefore, IsLeast, IsSame, NoneSame, IsUnmet, IsMissed, NoneMissed, IsVerdictOf, IsVerdict}

-- ---- the SSDT of a number

all_stand : {X : Type 0} (P : X → Type 0) (xs : List X) → AllByRecursion P xs → (i : ℕ) (x : X) → StandsAt xs i x → P x
all_stand P [] all i x h = absurd h
all_stand P (y ∷ ys) all zero x h = subst P h all.0
all_stand P (y ∷ ys) all (suc i) x h = all_stand P ys all.1 i x h

all_ssdts : (P : List ℕ → Type 0) (xs : List (List ℕ)) → AllByRecursion P xs → (i : ℕ) (b : List ℕ) → IsSsdt xs i b → P b
all_ssdts P xs all zero b h = absurd h
all_ssdts P xs all (suc i) b h = all_stand P xs all i b h

-- ---- the least

below_or_not : (a b : ℕ) → (a < b) ⊎ ((a ≡ b) ⊎ (b < a))
below_or_not a b = grind arith

path_below_or_not : (p q : List Segment) → (path_cmp p q ≡ Less) ⊎ ((p ≡ q) ⊎ (path_cmp q p ≡ Less))
path_below_or_not p q = by (path_cmp p q) refl
  where
    by : (r : Ordering) → path_cmp p q ≡ r → (path_cmp p q ≡ Less) ⊎ ((p ≡ q) ⊎ (path_cmp q p ≡ Less))
    by Less e = inl e
    by Equal e = inr (inl (path_cmp-IsAntisymmetric p q e))
    by Greater e = inr (inr (path_cmp_total.antisymm q p ∙ ap ordering_reverse e))

module _ (Holds : ℕ → ℕ → List Segment → Type 0) (i j : ℕ) (p : List Segment) (a b : ℕ) (q : List Segment) (h : IsLeast Holds i j p) (k : IsLeast Holds a b q) where
  abbrev Same : Type 0
  Same = (i ≡ a) × (j ≡ b) × (p ≡ q)

  no_first : IsBefore i j p a b q → ⊥
  no_first = k.none_before i j p h.holds

  no_second : IsBefore a b q i j p → ⊥
  no_second = h.none_before a b q k.holds

  by_paths : i ≡ a → j ≡ b → (path_cmp p q ≡ Less) ⊎ ((p ≡ q) ⊎ (path_cmp q p ≡ Less)) → Same
  by_paths e f (inl less) = absurd (no_first (inr (inr (e, f, less))))
  by_paths e f (inr (inl is)) = (e, f, is)
  by_paths e f (inr (inr more)) = absurd (no_second (inr (inr (sym e, sym f, more))))

  by_seconds : i ≡ a → (j < b) ⊎ ((j ≡ b) ⊎ (b < j)) → Same
  by_seconds e (inl less) = absurd (no_first (inr (inl (e, less))))
  by_seconds e (inr (inl is)) = by_paths e is (path_below_or_not p q)
  by_seconds e (inr (inr more)) = absurd (no_second (inr (inl (sym e, more))))

  by_firsts : (i < a) ⊎ ((i ≡ a) ⊎ (a < i)) → Same
  by_firsts (inl less) = absurd (no_first (inl less))
  by_firsts (inr (inl is)) = by_seconds is (below_or_not j b)
  by_firsts (inr (inr more)) = absurd (no_second (inl more))

  one_least : Same
  one_least = by_firsts (below_or_not i a)

-- ---- one verdict

first_alone : (depth : ℕ) (dsdt : List ℕ) (ssdts : List (List ℕ)) (i : ℕ) → AllAlone depth dsdt ssdts → IsFirstNotAlone depth dsdt ssdts i → ⊥
first_alone depth dsdt ssdts i all h = h.refused (all_ssdts (LoadsAlone depth dsdt) ssdts all i h.ssdt h.is_ssdt)

module _ (depth : ℕ) (dsdt : List ℕ) (ssdts : List (List ℕ)) where
  one_first : (i j : ℕ) → IsFirstNotAlone depth dsdt ssdts i → IsFirstNotAlone depth dsdt ssdts j → i ≡ j
  one_first i j h k = by (below_or_not i j)
    where
      by : (i < j) ⊎ ((i ≡ j) ⊎ (j < i)) → i ≡ j
      by (inl less) = absurd (h.refused (k.earlier i h.ssdt less h.is_ssdt))
      by (inr (inl is)) = is
      by (inr (inr more)) = absurd (k.refused (h.earlier j k.ssdt more k.is_ssdt))

  one_of : (v w : VerdictTree) → IsVerdictOf depth dsdt ssdts v → IsVerdictOf depth dsdt ssdts w → v ≡ w
  one_of commute commute h k = refl
  one_of commute (not_alone i) h k = absurd (first_alone depth dsdt ssdts i h.0 k)
  one_of commute (same i j p) h k = absurd (h.1 i j p k.1.holds)
  one_of commute (missed i j p) h k = absurd (h.2 i j p k.2.holds)
  one_of (not_alone i) commute h k = absurd (first_alone depth dsdt ssdts i k.0 h)
  one_of (not_alone i) (not_alone j) h k = ap (λ (n : ℕ). not_alone n) (one_first i j h k)
  one_of (not_alone i) (same a b q) h k = absurd (first_alone depth dsdt ssdts i k.0 h)
  one_of (not_alone i) (missed a b q) h k = absurd (first_alone depth dsdt ssdts i k.0 h)
  one_of (same i j p) commute h k = absurd (k.1 i j p h.1.holds)
  one_of (same i j p) (not_alone a) h k = absurd (first_alone depth dsdt ssdts a h.0 k)
  one_of (same i j p) (same a b q) h k = let e = one_least (IsSame depth dsdt ssdts) i j p a b q h.1 k.1 in λ n. same (e.0 n) (e.1 n) (e.2 n)
  one_of (same i j p) (missed a b q) h k = absurd (k.1 i j p h.1.holds)
  one_of (missed i j p) commute h k = absurd (k.2 i j p h.2.holds)
  one_of (missed i j p) (not_alone a) h k = absurd (first_alone depth dsdt ssdts a h.0 k)
  one_of (missed i j p) (same a b q) h k = absurd (h.1 a b q k.1.holds)
  one_of (missed i j p) (missed a b q) h k = let e = one_least (IsMissed depth dsdt ssdts) i j p a b q h.2 k.2 in λ n. missed (e.0 n) (e.1 n) (e.2 n)

  pub one_verdict : (v w : VerdictTree) → IsVerdict depth dsdt ssdts v → IsVerdict depth dsdt ssdts w → v ≡ w
  one_verdict v w h k = one_of v w h.1 k.1

  -- ---- commuting SSDTs are independent

  true_or_not : (b : Bool) → (b ≡ false → ⊥) → IsTrue b
  true_or_not true f = refl
  true_or_not false f = absurd (f refl)

  to_independent : IsVerdictOf depth dsdt ssdts commute → IsIndependent depth dsdt ssdts
  to_independent h = record {
    alone = h.0;
    apart = λ i j b c ne at there first t u listings others p o d.
        let either : (i < j) ⊎ (j < i) = grind arith in
        let met : IsUnmet depth first t p o → ⊥ =
        λ unmet. h.2 (suc i) (suc j) p ((λ e. ne (omega arith)), first, t, u, (b, at, listings), (c, there, others), o, d, unmet) in (
          none_of (objects_of t p) (λ x e. by i j b c ne at there first t u listings others p o d x e either),
          (λ miss. met (inl miss)),
          (λ args awaited. true_or_not (is_method_of o args) (λ other. met (inr (args, awaited, other)))),
        );
  }
    where
      by : (i j : ℕ) (b c : List ℕ) → i ≢ j → StandsAt ssdts i b → StandsAt ssdts j c → (first t u : Listing) → AreSingleListings depth dsdt b first t
          → AreSingleListings depth dsdt c first u
          → (p : List Segment) (o : ObjectTree) → objects_of u p ≡ Some o → (x : ObjectTree) → objects_of t p ≡ Some x → (i < j) ⊎ (j < i) → ⊥
      by i j b c ne at there first t u listings others p o d x e (inl less) =
          h.1 (suc i) (suc j) p (omega arith, first, t, u, (b, at, listings), (c, there, others), x, o, e, d)
      by i j b c ne at there first t u listings others p o d x e (inr more) =
          h.1 (suc j) (suc i) p (omega arith, first, u, t, (c, there, others), (b, at, listings), o, x, d, e)

  -- what independence says of two numbers
  apart_at : IsIndependent depth dsdt ssdts → (i j : ℕ) (b c : List ℕ) → i ≢ j → IsSsdt ssdts i b → IsSsdt ssdts j c → AreApart depth dsdt b c
  apart_at h zero j b c ne at there = absurd at
  apart_at h (suc i) zero b c ne at there = absurd there
  apart_at h (suc i) (suc j) b c ne at there = h.apart i j b c (omega arith) at there

  none_same : IsIndependent depth dsdt ssdts → NoneSame depth dsdt ssdts
  none_same h i j p (below, first, t, u, (b, at, listings), (c, there, others), o, x, declares, other_declares) =
      let apart = apart_at h i j b c (λ e. omega arith) at there first t u listings others p x other_declares in not_both (objects_of t p) o declares apart.0

  none_missed : IsIndependent depth dsdt ssdts → NoneMissed depth dsdt ssdts
  none_missed h i j p (ne, first, t, u, (b, at, listings), (c, there, others), o, declares, unmet) =
      by unmet
    where
      apart : (objects_of t p ≡ None) × (IsMiss depth first t p → ⊥) × ((args : ℕ) → IsAwaited depth first t p args → IsTrue (is_method_of o args))
      apart = apart_at h i j b c ne at there first t u listings others p o declares

      by : IsUnmet depth first t p o → ⊥
      by (inl miss) = apart.1 miss
      by (inr (args, awaited, other)) = let yes = apart.2 args awaited in let never : ⊥ = cc in never

  from_independent : IsIndependent depth dsdt ssdts → IsVerdictOf depth dsdt ssdts commute
  from_independent h = (h.alone, none_same h, none_missed h)

dsdt_loads : (depth : ℕ) (dsdt : List ℕ) (ssdts : List (List ℕ)) → ssdts ≢ [] → AllByRecursion (LoadsAlone depth dsdt) ssdts → DsdtLoads depth dsdt
dsdt_loads depth dsdt [] some all = absurd (some refl)
dsdt_loads depth dsdt (b ∷ bs) some all = (all.0.0, (all.0.2.0, tt))

pub commute_is_independent : (depth : ℕ) (dsdt : List ℕ) (ssdts : List (List ℕ)) → ssdts ≢ [] → IsVerdict depth dsdt ssdts commute ↔ IsIndependent depth dsdt ssdts
commute_is_independent depth dsdt ssdts some = (
  (λ h. to_independent depth dsdt ssdts h.1),
  (λ h. (dsdt_loads depth dsdt ssdts some h.alone, from_independent depth dsdt ssdts h)),
)

pub no_ssdts_commute : (depth : ℕ) (dsdt : List ℕ) → IsVerdict depth dsdt [] commute ↔ DsdtLoads depth dsdt
no_ssdts_commute depth dsdt = ((λ h. h.0), (λ h. (h, (tt, (λ i j p s. none i s.4.0 s.4.1), (λ i j p s. none i s.4.0 s.4.1)))))
  where
    none : (i : ℕ) (b : List ℕ) → IsSsdt [] i b → ⊥
    none zero b h = h
    none (suc i) b h = h

-- ---- what verdict's loops find

pub refused_is_not_alone : (depth : ℕ) (dsdt : List ℕ) (ssdts : List (List ℕ)) (i : ℕ) (reason : LoadReason) → DsdtLoads depth dsdt
    → ((k : ℕ) (b : List ℕ) → k < i → IsSsdt ssdts k b → LoadsAlone depth dsdt b) → IsReasonAt depth dsdt ssdts i reason → IsVerdict depth dsdt ssdts (not_alone i)
refused_is_not_alone depth dsdt ssdts i reason loads earlier h = (
  loads,
  record {
    ssdt = h.0;
    is_ssdt = h.1;
    refused = λ a. refused_has_no_load depth (dsdt ∷ h.0 ∷ []) (At 1 reason) h.2 (λ e. let never : ⊥ = cc in never) (a.0 ∷ a.1 ∷ []) a.2;
    earlier = earlier;
  },
)

pub least_by_pairs : (Holds : ℕ → ℕ → List Segment → Type 0) (i j : ℕ) (p : List Segment) → Holds i j p
    → ((a b : ℕ) (q : List Segment) → IsPairBefore a b i j → Holds a b q → ⊥)
    → ((q : List Segment) → path_cmp q p ≡ Less → Holds i j q → ⊥) → IsLeast Holds i j p
least_by_pairs Holds i j p h pairs paths = record { holds = h; none_before = by }
  where
    by : (a b : ℕ) (q : List Segment) → Holds a b q → IsBefore a b q i j p → ⊥
    by a b q k (inl less) = pairs a b q (inl less) k
    by a b q k (inr (inl less)) = pairs a b q (inr less) k
    by a b q k (inr (inr less)) = paths q less.2 (subst (λ y. Holds i y q) less.1 (subst (λ x. Holds x b q) less.0 k))
