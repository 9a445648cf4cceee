-- What bodies of two tables await, as one list.
use Rattle.std.proofs.Common.{◌≡◌, ◌⊎◌, ◌↔◌, inl, inr, ℕ, zero, suc, List, [], ◌∷◌, ◌++◌, map, Some, refl, sym, ap, subst, ◌∙◌}
use Rattle.std.specs.FinMap.{entries, get}
use Rattle.std.specs.List.{AllByRecursion}
use Rattle.std.specs.List.Sorted.{IsStrictlySortedBy}
use Rattle.std.specs.Ordering.{nat_cmp, ordering_then}
use Rattle.std.specs.declared.cmp.Ordering.{Ordering}
use Rattle.std.specs.declared.cmp.Ordering.TheVariants.{Less, Equal}
use Rattle.acpi_name.specs.Names.{Segment}
use Rattle.acpi_name.specs.Paths.{path_cmp}
use Rattle.acpi_space.specs.Laws.{Among}
use Rattle.acpi_space.specs.Spaces.{PathMap}
use Rattle.acpi_space.proofs.Keys.{keys_ascend}
use Rattle.acpi_space.proofs.Elements.{among_append, among_both, all_append}
use Rattle.acpi_order.specs.Misses.{Listing, objects_of_both}
use Rattle.acpi_order.specs.Singles.{awaited_cmp, IsAwaitedInTable, IsAwaitedBy}
use Rattle.acpi_singles.specs.steps.SingleMisses.{tagged}
use Rattle.acpi_verdict.proofs.PathSets.{pair_is}

abbrev Entry : Type 0
Entry = ℕ × List Segment × ℕ

-- ---- in order

-- entries of one table stand in the order of their paths
above : (k : ℕ) → nat_cmp k k ≡ Equal → (p : List Segment) (n : ℕ) (es : List (List Segment × ℕ)) → AllByRecursion (λ q. path_cmp p q ≡ Less) (map (λ e. e.0) es)
    → AllByRecursion (λ b. awaited_cmp (k, p, n) b ≡ Less) (tagged k es)
above k same p n [] h = tt
above k same p n (e ∷ es) h =
    (ap (λ (o : Ordering). ordering_then o (ordering_then (path_cmp p e.0) (nat_cmp n e.1))) same ∙ ap (λ (o : Ordering). ordering_then o (nat_cmp n e.1)) h.0, above k same p n es h.1)

tagged_ascend : (k : ℕ) → nat_cmp k k ≡ Equal → (es : List (List Segment × ℕ)) → IsStrictlySortedBy path_cmp (map (λ e. e.0) es) → IsStrictlySortedBy awaited_cmp (tagged k es)
unfolding IsStrictlySortedBy
tagged_ascend k same [] h = tt
tagged_ascend k same (e ∷ es) h = (above k same e.0 e.1 es h.0, tagged_ascend k same es h.1)

-- .. and those of the second table behind those of the first
behind : (p : List Segment) (n : ℕ) (es : List (List Segment × ℕ)) → AllByRecursion (λ b. awaited_cmp (0, p, n) b ≡ Less) (tagged 1 es)
behind p n [] = tt
behind p n (e ∷ es) = (refl, behind p n es)

both_ascend : (es fs : List (List Segment × ℕ)) → IsStrictlySortedBy awaited_cmp (tagged 0 es) → IsStrictlySortedBy awaited_cmp (tagged 1 fs)
    → IsStrictlySortedBy awaited_cmp (tagged 0 es ++ tagged 1 fs)
unfolding IsStrictlySortedBy
both_ascend [] fs h k = k
both_ascend (e ∷ es) fs h k = (all_append (λ b. awaited_cmp (0, e.0, e.1) b ≡ Less) (tagged 0 es) (tagged 1 fs) h.0 (behind e.0 e.1 fs), both_ascend es fs h.1 k)

-- ---- what stands in it

abbrev entry : ℕ → List Segment → ℕ → Entry
entry k p n = (k, p, n)

of_table : (k j : ℕ) (p : List Segment) (n : ℕ) (es : List (List Segment × ℕ)) → Among (tagged k es) (entry j p n) → (k ≡ j) × Among es (p, n)
of_table k j p n [] i = absurd i
of_table k j p n (e ∷ es) (inl s) = (ap (λ (x : Entry). x.0) s, inl (λ i. ((s i).1, (s i).2)))
of_table k j p n (e ∷ es) (inr i) = let r = of_table k j p n es i in (r.0, inr r.1)

in_table : (k : ℕ) (p : List Segment) (n : ℕ) (es : List (List Segment × ℕ)) → Among es (p, n) → Among (tagged k es) (entry k p n)
in_table k p n [] i = absurd i
in_table k p n (e ∷ es) (inl s) = inl (λ i. (k, (s i).0, (s i).1))
in_table k p n (e ∷ es) (inr i) = inr (in_table k p n es i)

module _ (depth : ℕ) (first t : Listing) (one two : PathMap ℕ) (items : List Entry) (list : items ≡ tagged 0 (entries one) ++ tagged 1 (entries two)) where
  pub awaited_ascend : IsStrictlySortedBy awaited_cmp items
  awaited_ascend =
      subst (IsStrictlySortedBy awaited_cmp) (sym list)
      (both_ascend (entries one) (entries two) (tagged_ascend 0 refl (entries one) (keys_ascend one)) (tagged_ascend 1 refl (entries two) (keys_ascend two)))

  abbrev AreCounts : PathMap ℕ → Listing → Type 0
  AreCounts m u = (p : List Segment) (n : ℕ) → (get m p ≡ Some n) ↔ IsAwaitedInTable depth (objects_of_both first t) u p n

  module _ (of_first : AreCounts one first) (of_second : AreCounts two t) where
    to_first : (k : ℕ) (p : List Segment) (n : ℕ) → (0 ≡ k) × Among (entries one) (p, n) → IsAwaitedBy depth first t k p n
    to_first k p n r = subst (λ (j : ℕ). IsAwaitedBy depth first t j p n) r.0 ((of_first p n).0 ((pair_is one p n).0 r.1))

    to_second : (k : ℕ) (p : List Segment) (n : ℕ) → (1 ≡ k) × Among (entries two) (p, n) → IsAwaitedBy depth first t k p n
    to_second k p n r = subst (λ (j : ℕ). IsAwaitedBy depth first t j p n) r.0 ((of_second p n).0 ((pair_is two p n).0 r.1))

    to : (k : ℕ) (p : List Segment) (n : ℕ) → Among (tagged 0 (entries one)) (entry k p n) ⊎ Among (tagged 1 (entries two)) (entry k p n) → IsAwaitedBy depth first t k p n
    to k p n (inl i) = to_first k p n (of_table 0 k p n (entries one) i)
    to k p n (inr i) = to_second k p n (of_table 1 k p n (entries two) i)

    from : (k : ℕ) (p : List Segment) (n : ℕ) → IsAwaitedBy depth first t k p n → Among (tagged 0 (entries one)) (entry k p n) ⊎ Among (tagged 1 (entries two)) (entry k p n)
    from zero p n h = inl (in_table 0 p n (entries one) ((pair_is one p n).1 ((of_first p n).1 h)))
    from (suc zero) p n h = inr (in_table 1 p n (entries two) ((pair_is two p n).1 ((of_second p n).1 h)))
    from (suc (suc k)) p n h = absurd h

    pub awaited_by : (k : ℕ) (p : List Segment) (n : ℕ) → Among items (entry k p n) ↔ IsAwaitedBy depth first t k p n
    awaited_by k p n = (
      (λ i. to k p n (among_append (tagged 0 (entries one)) (tagged 1 (entries two)) (entry k p n) (subst (λ (l : List Entry). Among l (entry k p n)) list i))),
      (λ h. subst (λ (l : List Entry). Among l (entry k p n)) (sym list) (among_both (tagged 0 (entries one)) (tagged 1 (entries two)) (entry k p n) (from k p n h))),
    )
