-- What bodies await, one method after another, has the counts of the table's Externals.
use Rattle.std.proofs.Common.{◌≡◌, ◌⊎◌, ◌↔◌, inl, inr, ℕ, List, [], ◌∷◌, map, Option, Some, None, refl, sym, ap, subst, ◌∙◌}
use Rattle.std.specs.Prelude.{IsTrue}
use Rattle.std.specs.FinMap.{get, empty, get-empty}
use Rattle.std.specs.Option.{unwrap_or}
use Rattle.acpi_name.specs.Names.{Segment}
use Rattle.acpi_name.specs.Paths.{path_cmp}
use Rattle.acpi_space.specs.Laws.{Among}
use Rattle.acpi_space.specs.Lookups.{Lookup}
use Rattle.acpi_space.specs.Spaces.{PathMap}
use Rattle.acpi_space.specs.Wanted.{Wants}
use Rattle.acpi_space.proofs.Elements.{one_some}
use Rattle.acpi_counts.specs.Counts.{with_first}
use Rattle.acpi_declare.specs.Namespace.{Namespace}
use Rattle.acpi_declare.specs.Notes as notes
use Rattle.acpi_body.specs.declared.misses.OpenMiss.{OpenMiss}
use Rattle.acpi_body.specs.Bodies.{BodyTree, read, unread}
use Rattle.acpi_body.specs.Misses.{IsOpenMiss}
use Rattle.acpi_body.proofs.Listed.{pair_among}
use Rattle.acpi_body.proofs.Grown.{Holds, holds_as, one_count}
use Rattle.acpi_order.specs.Bodies.{Method, with_counts}
use Rattle.acpi_order.specs.Misses.{IsAwaiting}
use Rattle.acpi_verdict.specs.declared.misses.Misses.{Misses}
use Rattle.acpi_verdict.specs.steps.Misses.{IsAwaitedByAny, open_pair, with_opens, AddsMethod, AddsMethods}

-- the methods of a table have its counts
pub alike : (counts : Lookup ℕ) (ms : List notes.Method) (m : Method) → Among (map (with_counts counts) ms) m → m.counts ≡ counts
alike counts [] m i = absurd i
alike counts (x ∷ ms) m (inl e) = ap (λ (k : Method). k.counts) (sym e)
alike counts (x ∷ ms) m (inr i) = alike counts ms m i

-- what a body awaits has the count of the External
pub open_expects : (objects : Namespace) (externals : Lookup ℕ) (s : List Segment) (b : BodyTree) (p : List Segment) (n : ℕ) → IsOpenMiss objects externals s b p n → externals p ≡ Some n
open_expects objects externals s (read ts) p n h = h.expects
open_expects objects externals s (unread bytes) p n h = absurd h

-- counts of a list more, all of them the Externals'
pub opens_hold : (externals : Lookup ℕ) (m : PathMap ℕ) (P : List Segment → Type 0) (es : List (List Segment × ℕ))
    → ((p : List Segment) (n : ℕ) → Among es (p, n) → externals p ≡ Some n)
    → Holds externals m P → Holds externals (with_opens m es) (λ p. P p ⊎ ((n : ℕ) × Among es (p, n)))
opens_hold externals m P [] told h = holds_as externals m P (λ p. P p ⊎ ((n : ℕ) × ⊥)) (λ p. (λ x. inl x, by p)) h
  where
    by : (p : List Segment) → P p ⊎ ((n : ℕ) × ⊥) → P p
    by p (inl x) = x
    by p (inr x) = absurd x.1
opens_hold externals m P (e ∷ es) told h =
    let there : externals e.0 ≡ Some e.1 = told e.0 e.1 (inl refl) in
    let one : Holds externals (with_first m e.0 e.1) (λ p. P p ⊎ (e.0 ≡ p)) =
    subst (λ (k : ℕ). Holds externals (with_first m e.0 k) (λ p. P p ⊎ (e.0 ≡ p))) (ap (λ (o : Option ℕ). unwrap_or o 0) there) (one_count externals m P e.0 e.1 there h) in
    holds_as externals (with_opens (with_first m e.0 e.1) es) (λ p. (P p ⊎ (e.0 ≡ p)) ⊎ ((n : ℕ) × Among es (p, n))) (λ p. P p ⊎ ((n : ℕ) × Among (e ∷ es) (p, n)))
    (λ p. (to p, from p))
    (opens_hold externals (with_first m e.0 e.1) (λ p. P p ⊎ (e.0 ≡ p)) es (λ p n i. told p n (inr i)) one)
  where
    to : (p : List Segment) → (P p ⊎ (e.0 ≡ p)) ⊎ ((n : ℕ) × Among es (p, n)) → P p ⊎ ((n : ℕ) × Among (e ∷ es) (p, n))
    to p (inl (inl x)) = inl x
    to p (inl (inr same)) = inr (e.1, inl (λ i. (same i, e.1)))
    to p (inr x) = inr (x.0, inr x.1)

    other : (p : List Segment) (n : ℕ) → (e ≡ (p, n)) ⊎ Among es (p, n) → (P p ⊎ (e.0 ≡ p)) ⊎ ((n : ℕ) × Among es (p, n))
    other p n (inl same) = inl (inr (ap (λ (x : List Segment × ℕ). x.0) same))
    other p n (inr i) = inr (n, i)

    from : (p : List Segment) → P p ⊎ ((n : ℕ) × Among (e ∷ es) (p, n)) → (P p ⊎ (e.0 ≡ p)) ⊎ ((n : ℕ) × Among es (p, n))
    from p (inl x) = inl (inl x)
    from p (inr x) = other p x.0 x.1

-- ---- the methods of one table

module _ (wanted : Wants) (depth : ℕ) (objects : Namespace) where
  abbrev pub IsAwaitedHere : List Method → List Segment → ℕ → Type 0
  IsAwaitedHere ms p n = IsAwaitedByAny depth objects ms p n × IsTrue (wanted p)

  module _ (externals : Lookup ℕ) where
    awaits_hold : (ms : List Method) (P : List Segment → Type 0) (before now : Misses) → ((m : Method) → Among ms m → m.counts ≡ externals) → AddsMethods wanted depth objects ms before now
        → Holds externals before.awaited P → Holds externals now.awaited (λ p. P p ⊎ ((n : ℕ) × IsAwaitedHere ms p n))
    awaits_hold [] P before now same h start =
        rw h (holds_as externals before.awaited P (λ p. P p ⊎ ((n : ℕ) × IsAwaitedHere [] p n)) (λ p. (λ x. inl x, by p)) start)
      where
        by : (p : List Segment) → P p ⊎ ((n : ℕ) × IsAwaitedHere [] p n) → P p
        by p (inl x) = x
        by p (inr x) = absurd x.1.0.1
    awaits_hold (m ∷ ms) P before now same h start =
        let one : AddsMethod wanted depth objects m before h.0 = h.1 in
        let es = map open_pair one.opens in
        let told : (p : List Segment) (n : ℕ) → Among es (p, n) → externals p ≡ Some n = λ p n i.
        let a = ((one.opens_are p n).0 ((pair_among one.opens p n).1 i)).0 in
        ap (λ (l : Lookup ℕ). l p) (sym (same m (inl refl))) ∙ open_expects objects m.counts m.path a.0 p n a.2 in
        let first : Holds externals h.0.awaited (λ p. P p ⊎ ((n : ℕ) × Among es (p, n))) =
        subst (λ (c : PathMap ℕ). Holds externals c (λ p. P p ⊎ ((n : ℕ) × Among es (p, n)))) (sym one.awaited_are) (opens_hold externals before.awaited P es told start) in
        holds_as externals now.awaited (λ p. (P p ⊎ ((n : ℕ) × Among es (p, n))) ⊎ ((n : ℕ) × IsAwaitedHere ms p n)) (λ p. P p ⊎ ((n : ℕ) × IsAwaitedHere (m ∷ ms) p n))
        (λ p. (to one.opens one.opens_are p, from one.opens one.opens_are p))
        (awaits_hold ms (λ p. P p ⊎ ((n : ℕ) × Among es (p, n))) h.0 now (λ k i. same k (inr i)) h.2 first)
      where
        AreOpen : List OpenMiss → Type 0
        AreOpen opens = (p : List Segment) (n : ℕ) → Among opens (record { path = p; count = n }) ↔ (IsAwaiting depth objects m p n × IsTrue (wanted p))

        to : (opens : List OpenMiss) → AreOpen opens → (p : List Segment) → (P p ⊎ ((n : ℕ) × Among (map open_pair opens) (p, n))) ⊎ ((n : ℕ) × IsAwaitedHere ms p n)
            → P p ⊎ ((n : ℕ) × IsAwaitedHere (m ∷ ms) p n)
        to opens are p (inl (inl x)) = inl x
        to opens are p (inl (inr x)) = let a = (are p x.0).0 ((pair_among opens p x.0).1 x.1) in inr (x.0, ((m, inl refl, a.0), a.1))
        to opens are p (inr x) = inr (x.0, ((x.1.0.0, inr x.1.0.1, x.1.0.2), x.1.1))

        awaiting_of : (opens : List OpenMiss) → AreOpen opens → (p : List Segment) (n : ℕ) (k : Method) → (m ≡ k) ⊎ Among ms k → IsAwaiting depth objects k p n → IsTrue (wanted p)
            → (P p ⊎ ((n : ℕ) × Among (map open_pair opens) (p, n))) ⊎ ((n : ℕ) × IsAwaitedHere ms p n)
        awaiting_of opens are p n k (inl e) x w = inl (inr (n, (pair_among opens p n).0 ((are p n).1 (subst (λ (j : Method). IsAwaiting depth objects j p n) (sym e) x, w))))
        awaiting_of opens are p n k (inr i) x w = inr (n, ((k, i, x), w))

        from : (opens : List OpenMiss) → AreOpen opens → (p : List Segment) → P p ⊎ ((n : ℕ) × IsAwaitedHere (m ∷ ms) p n)
            → (P p ⊎ ((n : ℕ) × Among (map open_pair opens) (p, n))) ⊎ ((n : ℕ) × IsAwaitedHere ms p n)
        from opens are p (inl x) = inl (inl x)
        from opens are p (inr x) = awaiting_of opens are p x.0 x.1.0.0 x.1.0.1 x.1.0.2 x.1.1

    -- where nothing was awaited before, just what they await has a count
    pub awaited_here : (ms : List Method) (before now : Misses) → ((m : Method) → Among ms m → m.counts ≡ externals) → AddsMethods wanted depth objects ms before now → before.awaited ≡ empty
        → (p : List Segment) (n : ℕ) → (get now.awaited p ≡ Some n) ↔ IsAwaitedHere ms p n
    awaited_here ms before now same h none p n =
        (λ e. let r = (all p n).0 e in to r.0 r.1, λ x. (all p n).1 (inr (n, x), counted n x))
      where
        at_first : Holds externals before.awaited (λ p. ⊥)
        at_first q k = (λ e. not (get before.awaited q) (ap (λ (c : PathMap ℕ). get c q) none ∙ get-empty path_cmp q) e, λ r. absurd r.0)
          where
            not : (o : Option ℕ) → o ≡ None → o ≡ Some k → ⊥ × (externals q ≡ Some k)
            not o e f = let never : None ≡ Some k = sym e ∙ f in cc

        all : Holds externals now.awaited (λ p. ⊥ ⊎ ((n : ℕ) × IsAwaitedHere ms p n))
        all = awaits_hold ms (λ p. ⊥) before now same h at_first

        counted : (k : ℕ) → IsAwaitedHere ms p k → externals p ≡ Some k
        counted k x = ap (λ (l : Lookup ℕ). l p) (sym (same x.0.0 x.0.1)) ∙ open_expects objects x.0.0.counts x.0.0.path x.0.2.0 p k x.0.2.2

        to : ⊥ ⊎ ((k : ℕ) × IsAwaitedHere ms p k) → externals p ≡ Some n → IsAwaitedHere ms p n
        to (inl x) e = absurd x
        to (inr x) e = subst (λ (k : ℕ). IsAwaitedHere ms p k) (one_some x.0 n (sym (counted x.0 x.1) ∙ e)) x.1
