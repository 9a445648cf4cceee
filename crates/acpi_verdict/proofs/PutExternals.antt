-- Satisfied Externals of one user: put in order, and behind those of earlier users.
use Rattle.std.proofs.Common.{◌≡◌, ◌↔◌, ◌⊎◌, inl, inr, ℕ, zero, suc, ◌<◌, Bool, ◌&&◌, nat_eq, List, [], ◌∷◌, ◌++◌, length, slice_index_or, refl, sym, subst, arith, rules}
use Rattle.std.specs.Cmp.{IsTotalOrder, eq_by_cmp_equiv}
use Rattle.std.specs.Cmp.Rules.{comparing}
use Rattle.std.specs.List.{Contains, dedup}
use Rattle.std.specs.List.Sorted.{IsPermutation, IsStrictlySortedBy}
use Rattle.std.specs.Ordering.{eq_by_cmp, nat_cmp, ordering_then}
use Rattle.std.specs.declared.cmp.Ordering.{Ordering}
use Rattle.std.specs.declared.cmp.Ordering.TheVariants.{Less, Equal, Greater}
use Rattle.std.proofs.lemmas.Bool.Decides.{nat_tests}
use Rattle.std.proofs.lemmas.Cmp.{nat_cmp_total, on_total, then_total}
use Rattle.std.proofs.lemmas.List.Kept.{Contains-dedup, Contains-from_dedup}
use Rattle.std.proofs.lemmas.List.Sorted.{Contains-permutation, IsPermutation-sym}
use Rattle.acpi_name.specs.Paths.{path_cmp}
use Rattle.acpi_name.specs.steps.PathOrder.{path_cmp_total, path_cmp-IsAntisymmetric}
use Rattle.acpi_space.specs.Laws.{Among}
use Rattle.acpi_space.proofs.Elements.{among_append, among_both, among_all}
use Rattle.acpi_space.proofs.Comparisons.{eq_of}
use Rattle.acpi_order.proofs.Lists.{all_among}
use Rattle.acpi_verdict.specs.declared.verdicts.Satisfied.{Satisfied}
use Rattle.acpi_verdict.specs.SatisfiedView.{satisfied_cmp}
use Rattle.acpi_verdict.specs.steps.Finding.{AddsSatisfied, PutsSatisfied}

-- ---- their order

pub satisfied_total : IsTotalOrder satisfied_cmp
satisfied_total =
    then_total (on_total (λ (s : Satisfied). s.user) nat_cmp_total)
    (then_total (on_total (λ (s : Satisfied). s.definer) nat_cmp_total) (on_total (λ (s : Satisfied). s.path) path_cmp_total))

-- an earlier user comes first
less : (a b : Satisfied) → a.user < b.user → satisfied_cmp a b ≡ Less
less a b earlier =
    let users : nat_cmp a.user b.user ≡ Less = grind (arith, nat_tests) in
    subst (λ (o : Ordering). ordering_then o (ordering_then (nat_cmp a.definer b.definer) (path_cmp a.path b.path)) ≡ Less) (sym users) refl

-- those that the order does not tell apart are equal
same_satisfied : (a b : Satisfied) → satisfied_cmp a b ≡ Equal → a ≡ b
same_satisfied a b = by (nat_cmp a.user b.user) (nat_cmp a.definer b.definer) (path_cmp a.path b.path) refl refl refl
  where
    same_number : (m n : ℕ) → nat_cmp m n ≡ Equal → m ≡ n
    same_number m n e = grind (arith, nat_tests)

    by : (x y z : Ordering) → nat_cmp a.user b.user ≡ x → nat_cmp a.definer b.definer ≡ y → path_cmp a.path b.path ≡ z → ordering_then x (ordering_then y z) ≡ Equal → a ≡ b
    by Less y z e f g h = cc
    by Greater y z e f g h = cc
    by Equal Less z e f g h = cc
    by Equal Greater z e f g h = cc
    by Equal Equal Less e f g h = cc
    by Equal Equal Greater e f g h = cc
    by Equal Equal Equal e f g h =
        let user = same_number a.user b.user e in
        let definer = same_number a.definer b.definer f in
        let path = path_cmp-IsAntisymmetric a.path b.path g in
        λ i. record { user = user i; definer = definer i; path = path i }

-- the test whether two are the same
abbrev pub same_test : Satisfied → Satisfied → Bool
same_test a b = nat_eq a.user b.user && (nat_eq a.definer b.definer && eq_by_cmp path_cmp a.path b.path)

pub same_ties : (a b : Satisfied) → same_test a b ≡ eq_by_cmp satisfied_cmp a b
same_ties a b = search (comparing, rules)

-- ---- put in order

among_contains : {X : Type 0} (xs : List X) (x : X) → Among xs x → Contains xs x
among_contains [] x m = absurd m
among_contains (y ∷ xs) x (inl e) = (0, omega arith, e)
among_contains (y ∷ xs) x (inr m) = let (k, within, is) = among_contains xs x m in (suc k, omega arith, is)

contains_among : {X : Type 0} (xs : List X) (x : X) (k : ℕ) → k < length xs → slice_index_or xs k x ≡ x → Among xs x
contains_among [] x k within is = absurd (omega arith)
contains_among (y ∷ xs) x zero within is = inl is
contains_among (y ∷ xs) x (suc k) within is = inr (contains_among xs x k (omega arith) is)

-- a list that was sorted, and freed of repeats
pub among_in_order : (found own : List Satisfied) → IsPermutation found own → (s : Satisfied) → Among (dedup same_test own) s ↔ Among found s
among_in_order found own moved s = subst (λ (test : Satisfied → Satisfied → Bool). Among (dedup test own) s ↔ Among found s) (sym (λ i a b. same_ties a b i)) (to, from)
  where
    among : (xs : List Satisfied) → Contains xs s → Among xs s
    among xs (k, within, is) = contains_among xs s k within is

    to : Among (dedup (eq_by_cmp satisfied_cmp) own) s → Among found s
    to m =
        let kept : Contains (dedup (eq_by_cmp satisfied_cmp) own) s = among_contains (dedup (eq_by_cmp satisfied_cmp) own) s m in
        among found (Contains-permutation own found s (IsPermutation-sym found own moved) (Contains-from_dedup (eq_by_cmp satisfied_cmp) own s kept))

    from : Among found s → Among (dedup (eq_by_cmp satisfied_cmp) own) s
    from m =
        let listed : Contains own s = Contains-permutation found own s moved (among_contains found s m) in
        among (dedup (eq_by_cmp satisfied_cmp) own)
        (Contains-dedup (eq_by_cmp_equiv satisfied_total) (λ a b e. same_satisfied a b (eq_of (satisfied_cmp a b) e)) own s listed)

-- ---- behind others

ascend_behind : (old own : List Satisfied) → IsStrictlySortedBy satisfied_cmp old → IsStrictlySortedBy satisfied_cmp own
    → ((a b : Satisfied) → Among old a → Among own b → a.user < b.user) → IsStrictlySortedBy satisfied_cmp (old ++ own)
unfolding IsStrictlySortedBy
ascend_behind [] own up rest earlier = rest
ascend_behind (x ∷ old) own up rest earlier = (all_among (λ s. satisfied_cmp x s ≡ Less) (old ++ own) first, ascend_behind old own up.1 rest (λ a b m k. earlier a b (inr m) k))
  where
    first : (s : Satisfied) → Among (old ++ own) s → satisfied_cmp x s ≡ Less
    first s m = by (among_append old own s m)
      where
        by : Among old s ⊎ Among own s → satisfied_cmp x s ≡ Less
        by (inl k) = among_all (λ y. satisfied_cmp x y ≡ Less) old up.0 s k
        by (inr k) = less x s (earlier x s (inl refl) k)

module _ (old new : List Satisfied) (P : Satisfied → Type 0) (puts : PutsSatisfied old new P) where
  pub puts_among : (s : Satisfied) → Among new s ↔ (Among old s ⊎ P s)
  puts_among s = subst (λ (l : List Satisfied). Among l s ↔ (Among old s ⊎ P s)) (sym puts.behind) (to, from)
    where
      to : Among (old ++ puts.own) s → Among old s ⊎ P s
      to m = by (among_append old puts.own s m)
        where
          by : Among old s ⊎ Among puts.own s → Among old s ⊎ P s
          by (inl k) = inl k
          by (inr k) = inr ((puts.are s).0 k)

      from : Among old s ⊎ P s → Among (old ++ puts.own) s
      from (inl k) = among_both old puts.own s (inl k)
      from (inr h) = among_both old puts.own s (inr ((puts.are s).1 h))

  pub puts_ascend : IsStrictlySortedBy satisfied_cmp old → ((a b : Satisfied) → Among old a → P b → a.user < b.user) → IsStrictlySortedBy satisfied_cmp new
  puts_ascend up earlier =
      subst (IsStrictlySortedBy satisfied_cmp) (sym puts.behind) (ascend_behind old puts.own up puts.ascend (λ a b m k. earlier a b m ((puts.are b).0 k)))

  pub puts_same : (Q : Satisfied → Type 0) → ((s : Satisfied) → P s → Q s) → ((s : Satisfied) → Q s → P s) → PutsSatisfied old new Q
  puts_same Q to from = record {
    own = puts.own;
    behind = puts.behind;
    ascend = puts.ascend;
    are = λ s. ((λ m. to s ((puts.are s).0 m)), (λ h. (puts.are s).1 (from s h)));
  }

-- what was put in order, of a list that was empty and to which those are added of which P holds
pub puts_own : (P : Satisfied → Type 0) (none found own : List Satisfied) → none ≡ [] → AddsSatisfied none found P → IsStrictlySortedBy satisfied_cmp own
    → ((s : Satisfied) → Among own s ↔ Among found s)
    → (old new : List Satisfied)
    → new ≡ old ++ own → PutsSatisfied old new P
puts_own P none found own empty adds up same old new behind =
    record { own = own; behind = behind; ascend = up; are = λ s. ((λ m. to s ((adds s).0 ((same s).0 m))), (λ h. (same s).1 ((adds s).1 (inr h)))) }
  where
    to : (s : Satisfied) → Among none s ⊎ P s → P s
    to s (inl m) = absurd (subst (λ (l : List Satisfied). Among l s) empty m)
    to s (inr h) = h
