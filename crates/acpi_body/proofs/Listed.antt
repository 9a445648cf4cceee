-- The entries of a map as a list in path order, each once.
use Rattle.std.proofs.Common.{◌≡◌, ◌⊎◌, ◌↔◌, inl, inr, ℕ, Bool, true, false, cond, List, [], ◌∷◌, map, is_some, Some, true≢false, refl, sym, ap, subst, ◌∙◌}
use Rattle.std.specs.Prelude.{IsTrue}
use Rattle.std.specs.declared.cmp.Ordering.TheVariants.{Less}
use Rattle.std.specs.Ordering.{is_eq}
use Rattle.std.specs.List.{AllByRecursion}
use Rattle.std.specs.List.Sorted.{IsStrictlySortedBy}
use Rattle.std.specs.FinMap.{get, entries, get-entries, find}
use Rattle.acpi_name.specs.Names.{Segment}
use Rattle.acpi_name.specs.Paths.{path_cmp}
use Rattle.acpi_name.proofs.EqualPaths.{path_eq_Decides}
use Rattle.acpi_space.specs.Spaces.{PathMap, is_defined}
use Rattle.acpi_space.specs.Lookups.{is_same_path}
use Rattle.acpi_space.specs.Laws.{Among}
use Rattle.acpi_space.proofs.Keys.{key_found, keys_ascend}
use Rattle.acpi_body.specs.declared.misses.OpenMiss.{OpenMiss}

-- ---- what stands in them

above_all : {V : Type 0} (k : List Segment) (es : List (List Segment × V)) (p : List Segment) (v : V)
    → AllByRecursion (λ q. path_cmp k q ≡ Less) (map (λ e. e.0) es) → Among es (p, v) → path_cmp k p ≡ Less
above_all k [] p v a h = absurd h
above_all k (e ∷ es) p v a (inl h) = ap (λ x. path_cmp k x.0) (sym h) ∙ a.0
above_all k (e ∷ es) p v a (inr h) = above_all k es p v a.1 h

not_above : (k p : List Segment) → p ≡ k → path_cmp k p ≡ Less → ⊥
not_above k p e h = true≢false (sym ((path_eq_Decides k p).1 (sym e)) ∙ ap is_eq h)

pub pair_found : {V : Type 0} (es : List (List Segment × V)) (p : List Segment) (v : V) → IsStrictlySortedBy path_cmp (map (λ e. e.0) es) → Among es (p, v) ↔ (find path_cmp p es ≡ Some v)
unfolding IsStrictlySortedBy
pair_found [] p v rise = (λ h. absurd h, λ h. absurd (true≢false (sym (ap is_some h))))
pair_found {V} (e ∷ es) p v rise = by (is_same_path p e.0) refl (pair_found es p v rise.1)
  where
    by : (b : Bool) → is_same_path p e.0 ≡ b → Among es (p, v) ↔ (find path_cmp p es ≡ Some v) → ((e ≡ (p, v)) ⊎ Among es (p, v)) ↔ (cond b (Some e.1) (find path_cmp p es) ≡ Some v)
    by true s more = (to, λ h. inl (λ i. (sym same i, value h i)))
      where
        same : p ≡ e.0
        same = (path_eq_Decides p e.0).0 s

        value : Some e.1 ≡ Some v → e.1 ≡ v
        value h = cc

        to : (e ≡ (p, v)) ⊎ Among es (p, v) → Some e.1 ≡ Some v
        to (inl h) = ap (λ x. Some x.1) h
        to (inr h) = absurd (not_above e.0 p same (above_all e.0 es p v rise.0 h))
    by false s more = (to, λ h. inr (more.1 h))
      where
        to : (e ≡ (p, v)) ⊎ Among es (p, v) → find path_cmp p es ≡ Some v
        to (inl h) = absurd (true≢false (sym ((path_eq_Decides p e.0).1 (sym (ap (λ x. x.0) h))) ∙ s))
        to (inr h) = more.0 h

-- ---- the lists that are answered

pub paths_among : (m : PathMap (Unit {0})) (P : List Segment → Type 0) (items : List (List Segment)) → items ≡ map (λ e. e.0) (entries m)
    → ((p : List Segment) → IsTrue (is_defined m p) ↔ P p) → (p : List Segment) → Among items p ↔ P p
paths_among m P items e h p =
    let k = key_found (entries m) p in (
      λ a. (h p).0 (ap is_some (get-entries m p) ∙ k.0 (subst (λ (l : List (List Segment)). Among l p) e a)),
      λ x. subst (λ (l : List (List Segment)). Among l p) (sym e) (k.1 (ap is_some (sym (get-entries m p)) ∙ (h p).1 x)),
    )

pub paths_ascend : {V : Type 0} (m : PathMap V) (items : List (List Segment)) → items ≡ map (λ e. e.0) (entries m) → IsStrictlySortedBy path_cmp items
paths_ascend m items e = subst (IsStrictlySortedBy path_cmp) (sym e) (keys_ascend m)

abbrev pub pair_of : OpenMiss → List Segment × ℕ
pair_of o = (o.path, o.count)

pub pair_among : (items : List OpenMiss) (p : List Segment) (n : ℕ) → Among items (record { path = p; count = n }) ↔ Among (map pair_of items) (p, n)
pair_among [] p n = (λ h. h, λ h. h)
pair_among (o ∷ items) p n = (to (pair_among items p n).0, from (pair_among items p n).1)
  where
    to : (Among items (record { path = p; count = n }) → Among (map pair_of items) (p, n))
        → (o ≡ record { path = p; count = n }) ⊎ Among items (record { path = p; count = n })
        → (pair_of o ≡ (p, n)) ⊎ Among (map pair_of items) (p, n)
    to more (inl h) = inl (ap pair_of h)
    to more (inr h) = inr (more h)

    from : (Among (map pair_of items) (p, n) → Among items (record { path = p; count = n })) → (pair_of o ≡ (p, n)) ⊎ Among (map pair_of items) (p, n)
        → (o ≡ record { path = p; count = n }) ⊎ Among items (record { path = p; count = n })
    from more (inl h) = inl (λ i. record { path = (h i).0; count = (h i).1 })
    from more (inr h) = inr (more h)

pub counts_among : (m : PathMap ℕ) (P : List Segment → ℕ → Type 0) (items : List OpenMiss) → map pair_of items ≡ entries m → ((p : List Segment) (n : ℕ) → (get m p ≡ Some n) ↔ P p n)
    → (p : List Segment) (n : ℕ) → Among items (record { path = p; count = n }) ↔ P p n
counts_among m P items e h p n =
    let k = pair_found (entries m) p n (keys_ascend m) in
    let a = pair_among items p n in
    let In : List (List Segment × ℕ) → Type 0 = λ l. Among l (p, n) in
    (λ x. (h p n).0 (get-entries m p ∙ k.0 (subst In e (a.0 x))), λ x. a.1 (subst In (sym e) (k.1 (sym (get-entries m p) ∙ (h p n).1 x))))

paths_of_pairs : (items : List OpenMiss) → map (λ o. o.path) items ≡ map (λ e. e.0) (map pair_of items)
paths_of_pairs [] = refl
paths_of_pairs (o ∷ items) = ap (λ l. o.path ∷ l) (paths_of_pairs items)

pub counts_ascend : (m : PathMap ℕ) (items : List OpenMiss) → map pair_of items ≡ entries m → IsStrictlySortedBy path_cmp (map (λ o. o.path) items)
counts_ascend m items e = paths_ascend m (map (λ o. o.path) items) (paths_of_pairs items ∙ ap (map (λ e. e.0)) e)
