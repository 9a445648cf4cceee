-- What the loads of SSDTs tell of one another, one SSDT after another.
use Rattle.std.proofs.Common.{◌≡◌, ◌↔◌, ◌⊎◌, inl, inr, ℕ, zero, suc, ◌+◌, ◌<◌, ◌≤◌, Bool, true, false, true≢false, List, [], ◌∷◌, length, get_or}
use Rattle.std.proofs.Common.{is_some, Option, Some, None, refl, sym, ap, subst, ◌∙◌, arith, add-one}
use Rattle.std.specs.Prelude.{IsTrue}
use Rattle.std.specs.FinMap.{get, entries}
use Rattle.std.specs.List.Sorted.{IsStrictlySortedBy}
use Rattle.acpi_name.specs.Names.{Segment}
use Rattle.acpi_space.specs.Laws.{Among}
use Rattle.acpi_space.specs.Spaces.{PathMap, is_defined}
use Rattle.acpi_space.proofs.Elements.{one_some}
use Rattle.acpi_tree.specs.Objects.{ObjectTree, method_object}
use Rattle.acpi_declare.specs.Declaring.{State}
use Rattle.acpi_declare.specs.Listing.{objects_of}
use Rattle.acpi_declare.specs.Loads.{AreListings}
use Rattle.acpi_declare.specs.Predefined.{predefined}
use Rattle.acpi_declare.proofs.Refusals.{same_listings}
use Rattle.acpi_order.specs.Independent.{AreSingleListings, is_method_of}
use Rattle.acpi_order.specs.Misses.{Listing, objects_of_first, objects_of_both, IsMiss, IsAwaited}
use Rattle.acpi_order.specs.Singles.{IsAwaitedInTable, IsAwaitedOf, IsSatisfied}
use Rattle.acpi_order.specs.Verdicts.{IsSsdt, IsSame, IsUnmet, IsMissed}
use Rattle.acpi_order.proofs.Once.{same_first, same_second}
use Rattle.acpi_order.proofs.Singles.{one_ssdt}
use Rattle.acpi_verdict.specs.declared.clashes.Clash.{Clash}
use Rattle.acpi_verdict.specs.declared.definers.Definer.{Definer}
use Rattle.acpi_verdict.specs.declared.definers.Definers.{Definers}
use Rattle.acpi_verdict.specs.declared.findings.PairFindings.{PairFindings}
use Rattle.acpi_verdict.specs.declared.verdicts.Satisfied.{Satisfied}
use Rattle.acpi_verdict.specs.SatisfiedView.{satisfied_cmp}
use Rattle.acpi_verdict.specs.steps.Clashing.{Clashes, IsLeastOf}
use Rattle.acpi_verdict.specs.steps.Defining.{method_args, are_args, takes, IsNoted}
use Rattle.acpi_verdict.specs.steps.Declaring.{IsDefiner, AreFirst, AreDefiners}
use Rattle.acpi_verdict.specs.steps.Finding.{IsUnmetOf, IsUnmetBy, IsUnmetAt, PutsSatisfied, IsSatisfiedFor, IsSatisfiedOf, FindsPair, FindsSsdt, AreFoundTo, AreFound}
use Rattle.acpi_verdict.specs.steps.Overlays.{IsOver}
use Rattle.acpi_verdict.specs.steps.PairMisses.{PairTree, IsMissedIn, IsAwaitedIn, AreLoadMisses, AreAwaitsAlone}
use Rattle.acpi_verdict.specs.steps.AffectedSsdts.{is_miss, AreAffected}
use Rattle.acpi_verdict.specs.declared.misses.Misses.{Misses}
use Rattle.acpi_verdict.proofs.AloneLoads.{ssdt_within}
use Rattle.acpi_verdict.proofs.Offers.{least_same, least_offered, offers_same}
use Rattle.acpi_verdict.proofs.PathSets.{pair_is}
use Rattle.acpi_verdict.proofs.PutExternals.{puts_among, puts_ascend, puts_same}

-- ---- argument counts

takes_as : (o : ObjectTree) (n : ℕ) → are_args (method_args o) n ≡ is_method_of o n
takes_as o n = by o
  where
    by : (o : ObjectTree) → are_args (method_args o) n ≡ is_method_of o n
    by (method_object flags) = refl
    by o = cc

definer_takes : (depth : ℕ) (dsdt : List ℕ) (ssdts : List (List ℕ)) (p : List Segment) (x : Definer) (h : IsDefiner depth dsdt ssdts p x) (n : ℕ) → takes x n ≡ is_method_of h.object n
definer_takes depth dsdt ssdts p x h n = ap (λ a. are_args a n) (sym h.args_are) ∙ takes_as h.object n

-- ---- one SSDT

-- who is noted at a path is wanted
noted_wanted : (d : Definers) → AreFirst d → (p : List Segment) (x : Definer) → IsNoted d p x → IsTrue (is_defined d.first p)
noted_wanted d firsts p x k = ap is_some (firsts p x k).1

module _ (depth : ℕ) (dsdt b : List ℕ) (d : Definers) (firsts : AreFirst d) (number : ℕ) (pair : PairTree) (tells : AreLoadMisses (is_defined d.first) depth dsdt b pair) (old new : PairFindings)
    (finds : FindsPair d number pair old new) where
  abbrev first : Listing
  first = tells.first

  abbrev t : Listing
  t = tells.t

  clash_to : (i j : ℕ) (p : List Segment) → IsUnmetOf d.first number pair.own i j p ⊎ IsUnmetOf d.first number pair.under i j p → IsUnmetBy depth d.first number first t i j p
  clash_to i j p (inl (e, x, is, at, ne, inl m)) = (e, x, is, at, ne, inl ((tells.missed_are p).0 (inl m)).0)
  clash_to i j p (inl (e, x, is, at, ne, inr (n, m, fails))) = (e, x, is, at, ne, inr (n, ((tells.awaited_are p n).0 (inl m)).0, fails))
  clash_to i j p (inr (e, x, is, at, ne, inl m)) = (e, x, is, at, ne, inl ((tells.missed_are p).0 (inr m)).0)
  clash_to i j p (inr (e, x, is, at, ne, inr (n, m, fails))) = (e, x, is, at, ne, inr (n, ((tells.awaited_are p n).0 (inr m)).0, fails))

  clash_from : (i j : ℕ) (p : List Segment) → IsUnmetBy depth d.first number first t i j p → IsUnmetOf d.first number pair.own i j p ⊎ IsUnmetOf d.first number pair.under i j p
  clash_from i j p (e, x, is, at, ne, inl miss) = by ((tells.missed_are p).1 (miss, ap is_some is))
    where
      by : IsMissedIn pair p → IsUnmetOf d.first number pair.own i j p ⊎ IsUnmetOf d.first number pair.under i j p
      by (inl m) = inl (e, x, is, at, ne, inl m)
      by (inr m) = inr (e, x, is, at, ne, inl m)
  clash_from i j p (e, x, is, at, ne, inr (n, awaited, fails)) = by ((tells.awaited_are p n).1 (awaited, ap is_some is))
    where
      by : IsAwaitedIn pair p n → IsUnmetOf d.first number pair.own i j p ⊎ IsUnmetOf d.first number pair.under i j p
      by (inl m) = inl (e, x, is, at, ne, inr (n, m, fails))
      by (inr m) = inr (e, x, is, at, ne, inr (n, m, fails))

  abbrev IsMetHere : Satisfied → Type 0
  IsMetHere = IsSatisfiedFor number (IsAwaitedInTable depth (objects_of_both first t) t) (IsNoted d)

  met_to : (s : Satisfied) → IsSatisfiedOf d number (entries pair.own.awaited) s → IsMetHere s
  met_to s (e, x, noted, at, ne, n, m, met) = (e, x, noted, at, ne, n, ((tells.own_awaited s.path n).0 ((pair_is pair.own.awaited s.path n).0 m)).0, met)

  met_from : (s : Satisfied) → IsMetHere s → IsSatisfiedOf d number (entries pair.own.awaited) s
  met_from s (e, x, noted, at, ne, n, awaits, met) =
      (e, x, noted, at, ne, n, (pair_is pair.own.awaited s.path n).1 ((tells.own_awaited s.path n).1 (awaits, noted_wanted d firsts s.path x noted)), met)

  pub finds_ssdt : FindsSsdt depth dsdt b d number old new
  finds_ssdt = record {
    first = first;
    t = t;
    listings = tells.listings;
    clash = offers_same (λ i j p. IsUnmetOf d.first number pair.own i j p ⊎ IsUnmetOf d.first number pair.under i j p) (IsUnmetBy depth d.first number first t) old.clash new.clash
        clash_to clash_from finds.clash;
    satisfied = puts_same old.satisfied.items new.satisfied.items (IsSatisfiedOf d number (entries pair.own.awaited)) finds.satisfied IsMetHere met_to met_from;
  }

-- ---- what is satisfied

module _ (depth : ℕ) (dsdt : List ℕ) (ssdts : List (List ℕ)) (d : Definers) (definers : AreDefiners depth dsdt ssdts d) where
  -- a method that the user awaits, and another SSDT declares
  satisfied_of : (user : ℕ) (Awaits : List Segment → ℕ → Type 0) (s : Satisfied) → ((p : List Segment) (n : ℕ) → Awaits p n → IsAwaitedOf depth dsdt ssdts user p n)
      → IsSatisfiedFor user Awaits (IsNoted d) s → IsSatisfied depth dsdt ssdts s.user s.definer s.path
  satisfied_of user Awaits s awaits (e, x, noted, at, ne, n, m, met) =
      let h = (definers.noted s.path x).0 noted in
      let found : IsSatisfied depth dsdt ssdts user x.number s.path = (
        (λ same. ne (sym same)),
        n,
        awaits s.path n m,
        h.first,
        h.t,
        (h.ssdt, h.is_ssdt, h.listings),
        h.object,
        h.declares,
        sym (definer_takes depth dsdt ssdts s.path x h n) ∙ met,
      ) in
      subst (λ (k : ℕ). IsSatisfied depth dsdt ssdts k s.definer s.path) e (subst (λ (k : ℕ). IsSatisfied depth dsdt ssdts user k s.path) at found)

  of_satisfied : (user : ℕ) (Awaits : List Segment → ℕ → Type 0) (s : Satisfied) → s.user ≡ user → ((p : List Segment) (n : ℕ) → IsAwaitedOf depth dsdt ssdts user p n → Awaits p n)
      → IsSatisfied depth dsdt ssdts s.user s.definer s.path → IsSatisfiedFor user Awaits (IsNoted d) s
  of_satisfied user Awaits s e awaits (different, args, waits, first, t, (ssdt, is_definer, listings), object, declares, method) =
      let x : Definer = record { number = s.definer; args = method_args object } in
      let definer : IsDefiner depth dsdt ssdts s.path x =
      record { ssdt = ssdt; is_ssdt = is_definer; first = first; t = t; listings = listings; object = object; declares = declares; args_are = refl } in (
        sym e,
        x,
        (definers.noted s.path x).1 definer,
        refl,
        (λ same. different (e ∙ sym same)),
        args,
        awaits s.path args (subst (λ (k : ℕ). IsAwaitedOf depth dsdt ssdts k s.path args) e waits),
        takes_as object args ∙ method,
      )

  -- what an SSDT of them declares is wanted, and where it isn't marked the DSDT missed and awaits none of it
  pub quiet_there : (number : ℕ) (b : List ℕ) → IsSsdt ssdts number b → (l : State) (over : IsOver depth dsdt b l) (alone : Misses) (flags : List Bool) → AreAffected d alone flags
      → get_or flags number true ≡ false → (p : List Segment) (o : ObjectTree) → objects_of over.t p ≡ Some o → IsTrue (is_defined d.first p) × (is_miss alone p ≡ true → ⊥)
  quiet_there number b at l over alone flags affected unmarked p o declares =
      let x : Definer = record { number = number; args = method_args o } in
      let h : IsDefiner depth dsdt ssdts p x =
      record { ssdt = b; is_ssdt = at; first = over.first; t = over.t; listings = over.listings; object = o; declares = declares; args_are = refl } in
      let noted = (definers.noted p x).1 h in
      (noted_wanted d definers.firsts p x noted, λ misses. true≢false (sym (affected p x misses noted) ∙ unmarked))

  -- ---- none yet, but for the DSDT

  one_dsdt : (t u : Listing) → AreListings depth 0 predefined (dsdt ∷ []) (t ∷ []) → AreListings depth 0 predefined (dsdt ∷ []) (u ∷ []) → t ≡ u
  one_dsdt t u h k = heads (same_listings depth 0 predefined (dsdt ∷ []) (t ∷ []) (u ∷ []) h k)
    where
      heads : t ∷ [] ≡ u ∷ [] → t ≡ u
      heads e = cc

  module _ (alone : PathMap ℕ) (awaits : AreAwaitsAlone (is_defined d.first) depth dsdt alone) where
    dsdt_awaits : (p : List Segment) (n : ℕ) → Among (entries alone) (p, n) → IsAwaitedOf depth dsdt ssdts 0 p n
    dsdt_awaits p n m = (awaits.first, awaits.listings, ((awaits.awaits_are p n).0 ((pair_is alone p n).0 m)).0)

    awaits_dsdt : (p : List Segment) (n : ℕ) → IsTrue (is_defined d.first p) → IsAwaitedOf depth dsdt ssdts 0 p n → Among (entries alone) (p, n)
    awaits_dsdt p n wanted (first, listings, h) =
        let same : first ≡ awaits.first = one_dsdt first awaits.first listings awaits.listings in
        (pair_is alone p n).1 ((awaits.awaits_are p n).1 (subst (λ (f : Listing). IsAwaitedInTable depth (objects_of_first f) f p n) same h, wanted))

    module _ (start now : List Satisfied) (none : start ≡ []) (puts : PutsSatisfied start now (IsSatisfiedOf d 0 (entries alone))) where
      first_among : (s : Satisfied) → Among now s ↔ (Among start s ⊎ IsSatisfiedOf d 0 (entries alone) s)
      first_among = puts_among start now (IsSatisfiedOf d 0 (entries alone)) puts

      first_to : (s : Satisfied) → Among now s → IsSatisfied depth dsdt ssdts s.user s.definer s.path × (s.user ≤ 0)
      first_to s m = by ((first_among s).0 m)
        where
          by : Among start s ⊎ IsSatisfiedOf d 0 (entries alone) s → IsSatisfied depth dsdt ssdts s.user s.definer s.path × (s.user ≤ 0)
          by (inl k) = absurd (subst (λ (ks : List Satisfied). Among ks s) none k)
          by (inr h) = let e = h.0 in (satisfied_of 0 (λ p n. Among (entries alone) (p, n)) s dsdt_awaits h, omega arith)

      first_from : (s : Satisfied) → IsSatisfied depth dsdt ssdts s.user s.definer s.path × (s.user ≤ 0) → Among now s
      first_from s (h, within) =
          let is_dsdt : s.user ≡ 0 = omega arith in
          let met : IsSatisfiedFor 0 (IsAwaitedOf depth dsdt ssdts 0) (IsNoted d) s = of_satisfied 0 (IsAwaitedOf depth dsdt ssdts 0) s is_dsdt (λ p n k. k) h in
          let wanted = noted_wanted d definers.firsts s.path met.1 met.2 in
          (first_among s).1 (inr (met.0, met.1, met.2, met.3, met.4, met.5, awaits_dsdt s.path met.5 wanted met.6, met.7))

      first_ascend : IsStrictlySortedBy satisfied_cmp now
      unfolding IsStrictlySortedBy
      first_ascend =
          puts_ascend start now (IsSatisfiedOf d 0 (entries alone)) puts (subst (IsStrictlySortedBy satisfied_cmp) (sym none) tt)
          (λ a b m h. absurd (subst (λ (l : List Satisfied). Among l a) none m))

      pub none_found : (f : PairFindings) → f.clash ≡ None → f.satisfied.items ≡ now → AreFoundTo depth dsdt ssdts d 0 f
      none_found f no_clash is_now = record {
        clash = subst (λ (o : Option Clash). IsLeastOf (λ i j p. IsUnmetAt depth dsdt ssdts d.first i j p × (i ≤ 0)) o) (sym no_clash) (λ i j p h. none_yet i j p h.0 h.1);
        ascend = subst (IsStrictlySortedBy satisfied_cmp) (sym is_now) first_ascend;
        satisfied = λ s. subst (λ (l : List Satisfied). Among l s ↔ (IsSatisfied depth dsdt ssdts s.user s.definer s.path × (s.user ≤ 0))) (sym is_now) (first_to s, first_from s);
      }
        where
          none_yet : (i j : ℕ) (p : List Segment) → IsUnmetAt depth dsdt ssdts d.first i j p → i ≤ 0 → ⊥
          none_yet zero j p h within = h.3
          none_yet (suc k) j p h within = absurd (omega arith)

  -- ---- one SSDT more

  up_to : (k n : ℕ) → k ≤ n + 1 → (k ≤ n) ⊎ (k ≡ n + 1)
  up_to k n h = grind arith

  module _ (n : ℕ) (b : List ℕ) (is_ssdt : IsSsdt ssdts (n + 1) b) (f now : PairFindings) (before : AreFoundTo depth dsdt ssdts d n f) (finds : FindsSsdt depth dsdt b d (n + 1) f now) where
    abbrev this : Listing
    this = finds.first

    abbrev u : Listing
    u = finds.t

    -- its listings are those
    module _ (c : List ℕ) (first t : Listing) (is_c : IsSsdt ssdts (n + 1) c) (listings : AreSingleListings depth dsdt c first t) where
      of_b : AreSingleListings depth dsdt b first t
      of_b = subst (λ (x : List ℕ). AreSingleListings depth dsdt x first t) (one_ssdt ssdts (n + 1) c b is_c is_ssdt) listings

      first_is : first ≡ this
      first_is = same_first depth dsdt b b first this t u of_b finds.listings

      t_is : t ≡ u
      t_is = same_second depth dsdt b this t u (subst (λ (x : Listing). AreSingleListings depth dsdt b x t) first_is of_b) finds.listings

    abbrev Before : Clashes
    Before i j p = IsUnmetAt depth dsdt ssdts d.first i j p × (i ≤ n)

    abbrev Now : Clashes
    Now i j p = IsUnmetAt depth dsdt ssdts d.first i j p × (i ≤ n + 1)

    abbrev Here : Clashes
    Here = IsUnmetBy depth d.first (n + 1) this u

    clashes_to : (i j : ℕ) (p : List Segment) → Before i j p ⊎ Here i j p → Now i j p
    clashes_to i j p (inl (h, within)) = (h, omega arith)
    clashes_to i j p (inr (e, x, is, at, ne, unmet)) = ((b, this, u, subst (λ (k : ℕ). IsSsdt ssdts k b) e is_ssdt, finds.listings, (refl, x, is, at, ne, unmet)), omega arith)

    clashes_from : (i j : ℕ) (p : List Segment) → Now i j p → Before i j p ⊎ Here i j p
    clashes_from i j p (h, within) = by (up_to i n within)
      where
        by : (i ≤ n) ⊎ (i ≡ n + 1) → Before i j p ⊎ Here i j p
        by (inl less) = inl (h, less)
        by (inr is) =
            let at : IsSsdt ssdts (n + 1) h.0 = subst (λ (k : ℕ). IsSsdt ssdts k h.0) is h.3 in
            let one_first = first_is h.0 h.1 h.2 at h.4 in
            let one_t = t_is h.0 h.1 h.2 at h.4 in
            let met = h.5 in
            let x = met.1 in
            let unmet : IsMiss depth this u p ⊎ ((k : ℕ) × IsAwaited depth this u p k × (takes x k ≡ false)) =
            subst (λ (l : Listing). IsMiss depth this l p ⊎ ((k : ℕ) × IsAwaited depth this l p k × (takes x k ≡ false))) one_t
            (subst (λ (l : Listing). IsMiss depth l h.2 p ⊎ ((k : ℕ) × IsAwaited depth l h.2 p k × (takes x k ≡ false))) one_first met.5) in
            inr (sym is, x, met.2, met.3, met.4, unmet)

    abbrev IsHere : Satisfied → Type 0
    IsHere s = IsSatisfied depth dsdt ssdts s.user s.definer s.path

    -- what its bodies await
    awaits_to : (p : List Segment) (k : ℕ) → IsAwaitedInTable depth (objects_of_both this u) u p k → IsAwaitedOf depth dsdt ssdts (n + 1) p k
    awaits_to p k h = rw add-one (this, u, (b, back, finds.listings), h)
      where
        back : IsSsdt ssdts (suc n) b
        back = subst (λ (i : ℕ). IsSsdt ssdts i b) (add-one n) is_ssdt

    awaits_from : (p : List Segment) (k : ℕ) → IsAwaitedOf depth dsdt ssdts (n + 1) p k → IsAwaitedInTable depth (objects_of_both this u) u p k
    awaits_from p k h = by (subst (λ (i : ℕ). IsAwaitedOf depth dsdt ssdts i p k) (add-one n) h)
      where
        by : IsAwaitedOf depth dsdt ssdts (suc n) p k → IsAwaitedInTable depth (objects_of_both this u) u p k
        by (one, two, (c, is_c, listings), awaits) =
            let at : IsSsdt ssdts (n + 1) c = subst (λ (i : ℕ). IsSsdt ssdts i c) (sym (add-one n)) is_c in
            subst (λ (l : Listing). IsAwaitedInTable depth (objects_of_both this l) l p k) (t_is c one two at listings)
            (subst (λ (l : Listing). IsAwaitedInTable depth (objects_of_both l two) two p k) (first_is c one two at listings) awaits)

    abbrev IsOwn : Satisfied → Type 0
    IsOwn = IsSatisfiedFor (n + 1) (IsAwaitedInTable depth (objects_of_both this u) u) (IsNoted d)

    among : (s : Satisfied) → Among now.satisfied.items s ↔ (Among f.satisfied.items s ⊎ IsOwn s)
    among = puts_among f.satisfied.items now.satisfied.items IsOwn finds.satisfied

    satisfied_to : (s : Satisfied) → Among now.satisfied.items s → IsHere s × (s.user ≤ n + 1)
    satisfied_to s m = by ((among s).0 m)
      where
        by : Among f.satisfied.items s ⊎ IsOwn s → IsHere s × (s.user ≤ n + 1)
        by (inl k) = let r = (before.satisfied s).0 k in let within = r.1 in (r.0, omega arith)
        by (inr h) = let e = h.0 in (satisfied_of (n + 1) (IsAwaitedInTable depth (objects_of_both this u) u) s awaits_to h, omega arith)

    satisfied_from : (s : Satisfied) → IsHere s × (s.user ≤ n + 1) → Among now.satisfied.items s
    satisfied_from s (h, within) = by (up_to s.user n within)
      where
        by : (s.user ≤ n) ⊎ (s.user ≡ n + 1) → Among now.satisfied.items s
        by (inl less) = (among s).1 (inl ((before.satisfied s).1 (h, less)))
        by (inr is) = (among s).1 (inr (of_satisfied (n + 1) (IsAwaitedInTable depth (objects_of_both this u) u) s is awaits_from h))

    earlier : (a b : Satisfied) → Among f.satisfied.items a → IsOwn b → a.user < b.user
    earlier a b m h = let within = ((before.satisfied a).0 m).1 in let e = h.0 in omega arith

    pub one_found : AreFoundTo depth dsdt ssdts d (n + 1) now
    one_found = record {
      clash = least_same (λ i j p. Before i j p ⊎ Here i j p) Now clashes_to clashes_from now.clash (least_offered Before Here f.clash now.clash before.clash finds.clash);
      ascend = puts_ascend f.satisfied.items now.satisfied.items IsOwn finds.satisfied before.ascend earlier;
      satisfied = λ s. (satisfied_to s, satisfied_from s);
    }

  -- ---- all

  user_within : (s : Satisfied) → IsSatisfied depth dsdt ssdts s.user s.definer s.path → s.user ≤ length ssdts
  user_within s h = by s.user h.2
    where
      by : (i : ℕ) → IsAwaitedOf depth dsdt ssdts i s.path h.1 → i ≤ length ssdts
      by zero a = omega arith
      by (suc i) a = ssdt_within ssdts (suc i) a.2.0 a.2.1

  pub all_found : (n : ℕ) (f : PairFindings) → length ssdts ≤ n → AreFoundTo depth dsdt ssdts d n f → AreFound depth dsdt ssdts d f
  all_found n f all h = record {
    clash = least_same (λ i j p. IsUnmetAt depth dsdt ssdts d.first i j p × (i ≤ n)) (IsUnmetAt depth dsdt ssdts d.first) (λ i j p k. k.0)
        (λ i j p k. (k, let within = ssdt_within ssdts i k.0 k.3 in omega arith)) f.clash h.clash;
    satisfied = record {
      ascend = h.ascend;
      are = λ s. ((λ m. ((h.satisfied s).0 m).0), (λ k. (h.satisfied s).1 (k, let within = user_within s k in omega arith)));
    };
  }

  -- ---- where no two declare one path

  module _ (unique : (i j : ℕ) (p : List Segment) → IsSame depth dsdt ssdts i j p → ⊥) where
    missed_to : (i j : ℕ) (p : List Segment) → IsUnmetAt depth dsdt ssdts d.first i j p → IsMissed depth dsdt ssdts i j p
    missed_to i j p (b, one, two, is_ssdt, listings, (e, x, is, at, ne, unmet)) =
        let h = (definers.noted p x).0 (inl is) in
        let behind : AreSingleListings depth dsdt h.ssdt one h.t =
        subst (λ (l : Listing). AreSingleListings depth dsdt h.ssdt l h.t) (same_first depth dsdt h.ssdt b h.first one h.t two h.listings listings) h.listings in (
          (λ same. ne (sym same)),
          one,
          two,
          h.t,
          (b, is_ssdt, listings),
          (h.ssdt, subst (λ (k : ℕ). IsSsdt ssdts k h.ssdt) at h.is_ssdt, behind),
          h.object,
          h.declares,
          by h unmet,
        )
      where
        by : (h : IsDefiner depth dsdt ssdts p x) → IsMiss depth one two p ⊎ ((n : ℕ) × IsAwaited depth one two p n × (takes x n ≡ false)) → IsUnmet depth one two p h.object
        by h (inl m) = inl m
        by h (inr (n, m, fails)) = inr (n, m, sym (definer_takes depth dsdt ssdts p x h n) ∙ fails)

    missed_from : (i j : ℕ) (p : List Segment) → IsMissed depth dsdt ssdts i j p → IsUnmetAt depth dsdt ssdts d.first i j p
    missed_from i j p (different, first, t, u, (searcher, is_searcher, listings), (definer, is_definer, definer_listings), object, declares, is_unmet) =
        (searcher, first, t, is_searcher, listings, (refl, x, r.1, number, (λ same. different (sym same)), unmet is_unmet))
      where
        y : Definer
        y = record { number = j; args = method_args object }

        of_y : IsDefiner depth dsdt ssdts p y
        of_y = record {
          ssdt = definer;
          is_ssdt = is_definer;
          first = first;
          t = u;
          listings = definer_listings;
          object = object;
          declares = declares;
          args_are = refl;
        }

        r : (x : Definer) × (get d.first p ≡ Some x) × (x.number ≤ j)
        r = definers.firsts p y ((definers.noted p y).1 of_y)

        x : Definer
        x = r.0

        of_x : IsDefiner depth dsdt ssdts p x
        of_x = (definers.noted p x).0 (inl r.1)

        which : (a : ℕ) → a ≤ j → (a < j) ⊎ (a ≡ j)
        which a less = grind arith

        number : x.number ≡ j
        number = by (which x.number r.2)
          where
            by : (x.number < j) ⊎ (x.number ≡ j) → x.number ≡ j
            by (inr is) = is
            by (inl less) =
                let behind : AreSingleListings depth dsdt definer of_x.first u =
                subst (λ (l : Listing). AreSingleListings depth dsdt definer l u)
                (same_first depth dsdt definer of_x.ssdt first of_x.first u of_x.t definer_listings of_x.listings) definer_listings in
                absurd (unique x.number j p
                (less, of_x.first, of_x.t, u, (of_x.ssdt, of_x.is_ssdt, of_x.listings), (definer, is_definer, behind), of_x.object, object, of_x.declares, declares))

        same_object : of_x.object ≡ object
        same_object =
            let same : of_x.ssdt ≡ definer = one_ssdt ssdts j of_x.ssdt definer (subst (λ (k : ℕ). IsSsdt ssdts k of_x.ssdt) number of_x.is_ssdt) is_definer in
            let own : AreSingleListings depth dsdt definer of_x.first of_x.t = subst (λ (c : List ℕ). AreSingleListings depth dsdt c of_x.first of_x.t) same of_x.listings in
            let one_first : of_x.first ≡ first = same_first depth dsdt definer definer of_x.first first of_x.t u own definer_listings in
            let one_t : of_x.t ≡ u =
            same_second depth dsdt definer first of_x.t u (subst (λ (l : Listing). AreSingleListings depth dsdt definer l of_x.t) one_first own) definer_listings in
            one_some of_x.object object (sym of_x.declares ∙ ap (λ (l : Listing). objects_of l p) one_t ∙ declares)

        unmet : IsUnmet depth first t p object → IsMiss depth first t p ⊎ ((n : ℕ) × IsAwaited depth first t p n × (takes x n ≡ false))
        unmet (inl m) = inl m
        unmet (inr (n, m, fails)) = inr (n, m, definer_takes depth dsdt ssdts p x of_x n ∙ ap (λ (o : ObjectTree). is_method_of o n) same_object ∙ fails)

    pub first_missed : (o : Option Clash) → IsLeastOf (IsUnmetAt depth dsdt ssdts d.first) o → IsLeastOf (IsMissed depth dsdt ssdts) o
    first_missed = least_same (IsUnmetAt depth dsdt ssdts d.first) (IsMissed depth dsdt ssdts) missed_to missed_from
