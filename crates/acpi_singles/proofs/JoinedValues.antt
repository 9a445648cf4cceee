-- Values by path that are put together, part after part.
use Rattle.std.proofs.Common.{◌≡◌, ◌⊎◌, ◌↔◌, inl, inr, Bool, true, false, cond, List, [], ◌∷◌, map, Option, Some, None, true≢false, refl, sym, ap, subst, ◌∙◌}
use Rattle.std.specs.Prelude.{IsTrue}
use Rattle.std.specs.Option.{option_map, option_or}
use Rattle.std.specs.FinMap.{FinMap, entries, from_entries, get}
use Rattle.std.specs.Map.{lookup}
use Rattle.std.specs.Option.{option_eq}
use Rattle.std.specs.Ordering.{is_eq}
use Rattle.std.specs.Cmp.Lexicographic.{pointwise}
use Rattle.std.specs.List.Sorted.{IsStrictlySortedBy}
use Rattle.acpi_name.specs.Names.{Segment}
use Rattle.acpi_name.specs.Paths.{path_cmp}
use Rattle.acpi_name.proofs.EqualPaths.{path_eq_Decides}
use Rattle.acpi_space.specs.Laws.{Among}
use Rattle.acpi_space.specs.Lookups.{Lookup, is_same_path, singleton, union}
use Rattle.acpi_space.specs.Spaces.{PathMap}
use Rattle.acpi_space.proofs.Maps.{entries_ascending, get_is_lookup}
use Rattle.acpi_space.proofs.Elements.{one_some}
use Rattle.acpi_space.proofs.Tree.{or_none}
use Rattle.acpi_tree.specs.steps.Equality.{Tells, lists_tell}
use Rattle.acpi_pass.proofs.ValuesByPath.{get_inserted, lookup_mapped, put_mapped}
use Rattle.acpi_singles.specs.steps.Joining.{Gains, Clash, JoinsValue}
use Rattle.acpi_verdict.proofs.PathSets.{pair_is}

-- ---- one value

-- the value is there already
pub had : {V : Type 0} (old : Lookup V) (p : List Segment) (v : V) → old p ≡ Some v → Gains old old (λ q u. (p ≡ q) × (v ≡ u))
had {V} old p v here q u = (λ e. inl e, back)
  where
    back : (old q ≡ Some u) ⊎ ((p ≡ q) × (v ≡ u)) → old q ≡ Some u
    back (inl e) = e
    back (inr r) = ap old (sym r.0) ∙ here ∙ ap (λ (x : V). Some x) r.1

-- the path was free
pub put : {V : Type 0} (old new : Lookup V) (p : List Segment) (v : V) → old p ≡ None
    → ((q : List Segment) → new q ≡ cond (is_same_path q p) (Some v) (old q)) → Gains old new (λ q u. (p ≡ q) × (v ≡ u))
put {V} old new p v free is q u = by (is_same_path q p) refl
  where
    by : (b : Bool) → is_same_path q p ≡ b → (new q ≡ Some u) ↔ ((old q ≡ Some u) ⊎ ((p ≡ q) × (v ≡ u)))
    by true s =
        let same : q ≡ p = (path_eq_Decides q p).0 s in
        let now : new q ≡ Some v = is q ∙ ap (λ (b : Bool). cond b (Some v) (old q)) s in
        (λ e. inr (sym same, one_some v u (sym now ∙ e)), λ r. back same now r)
      where
        back : q ≡ p → new q ≡ Some v → (old q ≡ Some u) ⊎ ((p ≡ q) × (v ≡ u)) → new q ≡ Some u
        back same now (inl e) = let never : None ≡ Some u = sym free ∙ ap old (sym same) ∙ e in cc
        back same now (inr r) = now ∙ ap (λ (x : V). Some x) r.1
    by false s =
        let now : new q ≡ old q = is q ∙ ap (λ (b : Bool). cond b (Some v) (old q)) s in
        (λ e. inl (sym now ∙ e), λ r. back now r)
      where
        back : new q ≡ old q → (old q ≡ Some u) ⊎ ((p ≡ q) × (v ≡ u)) → new q ≡ Some u
        back now (inl e) = now ∙ e
        back now (inr r) = absurd (true≢false (sym ((path_eq_Decides q p).1 (sym r.0)) ∙ s))

newest : {V : Type 0} (b : Bool) (v : V) (a : Option V) → option_or (cond b (Some v) None) a ≡ cond b (Some v) a
newest true v a = refl
newest false v a = refl

-- .. and has the value now, before or behind the others
pub put_first : {V : Type 0} (old new : Lookup V) (p : List Segment) (v : V) → old p ≡ None → new ≡ union (singleton p v) old → Gains old new (λ q u. (p ≡ q) × (v ≡ u))
put_first {V} old new p v free e = put old new p v free (λ q. ap (λ (l : Lookup V). l q) e ∙ newest (is_same_path q p) v (old q))

pub put_last : {V : Type 0} (old new : Lookup V) (p : List Segment) (v : V) → old p ≡ None → new ≡ union old (singleton p v) → Gains old new (λ q u. (p ≡ q) × (v ≡ u))
put_last {V} old new p v free e = put old new p v free (λ q. ap (λ (l : Lookup V). l q) e ∙ by q (is_same_path q p) refl)
  where
    by : (q : List Segment) (b : Bool) → is_same_path q p ≡ b → option_or (old q) (cond b (Some v) None) ≡ cond b (Some v) (old q)
    by q true s = ap (λ (a : Option V). option_or a (Some v)) (ap old ((path_eq_Decides q p).0 s) ∙ free)
    by q false s = or_none (old q)

-- the path has a value, and the test tells whether it is this one
pub same_or_other : {V : Type 0} (old : Lookup V) (p : List Segment) (v w : V) (b : Bool) → old p ≡ Some w → IsTrue b ↔ (w ≡ v) → JoinsValue old old p v b
same_or_other {V} old p v w true here test = had old p v (here ∙ ap (λ (x : V). Some x) (test.0 refl))
same_or_other old p v w false here test = (w, here, λ e. true≢false (sym (test.1 e)))

-- ---- maps, whose values are seen through a function

abbrev pub mapped : {V W : Type 0} → (V → W) → List (List Segment × V) → List (List Segment × W)
mapped f es = map (λ e. (e.0, f e.1)) es

abbrev pub values_in : {V W : Type 0} → (V → W) → List (List Segment × V) → Lookup W
values_in f es = get (from_entries {R = path_cmp} (mapped f es))

module _ {V W : Type 0} (f : V → W) (es : List (List Segment × V)) (p : List Segment) where
  pub value_at : (o : Option V) → o ≡ lookup (λ k. is_eq (path_cmp p k)) es → values_in f es p ≡ option_map f o
  value_at o e = get_is_lookup (mapped f es) p ∙ lookup_mapped f (λ k. is_eq (path_cmp p k)) es ∙ ap (option_map f) (sym e)

  pub inserted : (fs : List (List Segment × V)) (k : List Segment) (x : V) (w : W) → k ≡ p → f x ≡ w
      → ((q : List Segment) → lookup (λ y. is_eq (path_cmp q y)) fs ≡ cond (is_eq (path_cmp k q)) (Some x) (lookup (λ y. is_eq (path_cmp q y)) es))
      → values_in f es p ≡ None → Gains (values_in f es) (values_in f fs) (λ q u. (p ≡ q) × (w ≡ u))
  inserted fs k x w same seen updates free =
      put_first (values_in f es) (values_in f fs) p w free
      (ap get (put_mapped f es fs k x updates) ∙ get_inserted (from_entries (mapped f es)) k (f x)
      ∙ ap (λ (q : List Segment). union (singleton q (f x)) (values_in f es)) same ∙ ap (λ (u : W). union (singleton p u) (values_in f es)) seen)

-- ---- answers of links

options_tell : {X : Type 0} {E : X → X → Bool} → Tells E → Tells (option_eq E)
options_tell {X} {E} t = record { is = is; same = same }
  where
    is : (a b : Option X) → option_eq E a b ≡ true → a ≡ b
    is None None h = refl
    is (Some x) (Some y) h = ap Some (t.is x y h)
    is None (Some y) h = absurd (true≢false (sym h))
    is (Some x) None h = absurd (true≢false (sym h))

    same : (a : Option X) → option_eq E a a ≡ true
    same None = refl
    same (Some x) = t.same x

pub answers_tell : Tells (pointwise (option_eq is_same_path))
answers_tell = lists_tell (options_tell (record { is = λ p q h. (path_eq_Decides p q).0 h; same = λ p. (path_eq_Decides p p).1 refl }))

-- ---- some of the values are added, the rest is left

pub record Joining {V : Type 0} (old now : Lookup V) (All Rest : List Segment → V → Type 0) : Type 0 where
  pub kept : (p : List Segment) (v : V) → old p ≡ Some v → now p ≡ Some v
  pub only : (p : List Segment) (v : V) → now p ≡ Some v → (old p ≡ Some v) ⊎ All p v
  pub each : (p : List Segment) (v : V) → All p v → (now p ≡ Some v) ⊎ Rest p v
  pub within : (p : List Segment) (v : V) → Rest p v → All p v

module _ {V : Type 0} (old : Lookup V) (All : List Segment → V → Type 0) where
  pub joining_none : Joining old old All All
  joining_none = record { kept = λ p v e. e; only = λ p v e. inl e; each = λ p v h. inr h; within = λ p v h. h }

  pub joining_more : (now new : Lookup V) (Rest Part Left : List Segment → V → Type 0) → Joining old now All Rest → Gains now new Part
      → ((p : List Segment) (v : V) → Rest p v ↔ (Part p v ⊎ Left p v))
      → Joining old new All Left
  joining_more now new Rest Part Left j gains split = record {
    kept = λ p v e. (gains p v).1 (inl (j.kept p v e));
    only = λ p v e. by_old p v ((gains p v).0 e);
    each = λ p v h. by_rest p v (j.each p v h);
    within = λ p v h. j.within p v ((split p v).1 (inr h));
  }
    where
      by_old : (p : List Segment) (v : V) → (now p ≡ Some v) ⊎ Part p v → (old p ≡ Some v) ⊎ All p v
      by_old p v (inl e) = j.only p v e
      by_old p v (inr h) = inr (j.within p v ((split p v).1 (inl h)))

      by_part : (p : List Segment) (v : V) → Part p v ⊎ Left p v → (new p ≡ Some v) ⊎ Left p v
      by_part p v (inl h) = inl ((gains p v).1 (inr h))
      by_part p v (inr h) = inr h

      by_rest : (p : List Segment) (v : V) → (now p ≡ Some v) ⊎ Rest p v → (new p ≡ Some v) ⊎ Left p v
      by_rest p v (inl e) = inl ((gains p v).1 (inl e))
      by_rest p v (inr h) = by_part p v ((split p v).0 h)

  pub joined : (now : Lookup V) (Rest : List Segment → V → Type 0) → Joining old now All Rest → ((p : List Segment) (v : V) → Rest p v → ⊥) → Gains old now All
  joined now Rest j none p v = (j.only p v, back)
    where
      there : (now p ≡ Some v) ⊎ Rest p v → now p ≡ Some v
      there (inl e) = e
      there (inr h) = absurd (none p v h)

      back : (old p ≡ Some v) ⊎ All p v → now p ≡ Some v
      back (inl e) = j.kept p v e
      back (inr h) = there (j.each p v h)

-- ---- the values of a map, as a list

abbrev pair : {V : Type 0} → List Segment → V → List Segment × V
pair p v = (p, v)

abbrev pub InList : {V : Type 0} → List (List Segment × V) → List Segment → V → Type 0
InList es p v = Among es (p, v)

-- the first of them, and the others
pub first_or_later : {V : Type 0} (q : List Segment) (u : V) (es : List (List Segment × V)) (p : List Segment) (v : V) → InList ((q, u) ∷ es) p v ↔ (((q ≡ p) × (u ≡ v)) ⊎ InList es p v)
first_or_later {V} q u es p v = (to, from)
  where
    to : (pair q u ≡ pair p v) ⊎ InList es p v → ((q ≡ p) × (u ≡ v)) ⊎ InList es p v
    to (inl e) = inl (ap (λ (x : List Segment × V). x.0) e, ap (λ (x : List Segment × V). x.1) e)
    to (inr i) = inr i

    from : ((q ≡ p) × (u ≡ v)) ⊎ InList es p v → (pair q u ≡ pair p v) ⊎ InList es p v
    from (inl r) = inl (λ i. (r.0 i, r.1 i))
    from (inr i) = inr i

module _ {V W : Type 0} (f : V → W) where
  of_mapped : (es : List (List Segment × V)) (p : List Segment) (w : W) → Among (mapped f es) (p, w) → (v : V) × Among es (p, v) × (f v ≡ w)
  of_mapped [] p w i = absurd i
  of_mapped (e ∷ es) p w (inl s) = (e.1, inl (λ i. ((s i).0, e.1)), ap (λ (x : List Segment × W). x.1) s)
  of_mapped (e ∷ es) p w (inr i) = let r = of_mapped es p w i in (r.0, inr r.1, r.2)

  in_mapped : (es : List (List Segment × V)) (p : List Segment) (v : V) → Among es (p, v) → Among (mapped f es) (p, f v)
  in_mapped [] p v i = absurd i
  in_mapped (e ∷ es) p v (inl s) = inl (λ i. ((s i).0, f (s i).1))
  in_mapped (e ∷ es) p v (inr i) = inr (in_mapped es p v i)

  some_mapped : (o : Option V) (w : W) → option_map f o ≡ Some w → (v : V) × (o ≡ Some v) × (f v ≡ w)
  some_mapped None w e = let never : None ≡ Some w = e in cc
  some_mapped (Some v) w e = (v, refl, one_some (f v) w e)

  -- what is seen of the pairs of a map
  pub seen_pairs : (m : PathMap V) (p : List Segment) (w : W) → InList (mapped f (entries m)) p w ↔ (option_map f (get m p) ≡ Some w)
  seen_pairs m p w = (
    (λ i.
        let r = of_mapped (entries m) p w i in
        ap (option_map f) ((pair_is m p r.0).0 r.1) ∙ ap (λ (x : W). Some x) r.2),
    (λ e.
        let r = some_mapped (get m p) w e in
        subst (λ (x : W). InList (mapped f (entries m)) p x) r.2 (in_mapped (entries m) p r.0 ((pair_is m p r.0).1 r.1))),
  )

  same_keys : (es : List (List Segment × V)) → map (λ e. e.0) (mapped f es) ≡ map (λ e. e.0) es
  same_keys [] = refl
  same_keys (e ∷ es) = ap (λ l. e.0 ∷ l) (same_keys es)

  -- of pairs in order, and of the map that they make
  pub ordered_pairs : (es : List (List Segment × V)) → IsStrictlySortedBy path_cmp (map (λ e. e.0) es) → (p : List Segment) (w : W)
      → InList (mapped f es) p w ↔ (get (from_entries {R = path_cmp} (mapped f es)) p ≡ Some w)
  ordered_pairs es sorted p w =
      let m : FinMap path_cmp W = from_entries (mapped f es) in
      let listed : entries m ≡ mapped f es = entries_ascending (mapped f es) (subst (IsStrictlySortedBy path_cmp) (sym (same_keys es)) sorted) in
      (λ i. (pair_is m p w).0 (subst (λ (l : List (List Segment × W)). Among l (p, w)) (sym listed) i), λ e. subst (λ (l : List (List Segment × W)). Among l (p, w)) listed ((pair_is m p w).1 e))

-- ---- the pairs of a part, one after another

module _ {V : Type 0} (old now new : Lookup V) (all rest left : List (List Segment × V)) (p : List Segment) (v : V)
    (j : Joining old now (InList all) (InList rest)) (front : rest ≡ pair p v ∷ left) where
  parts : (q : List Segment) (u : V) → InList rest q u ↔ (((p ≡ q) × (v ≡ u)) ⊎ InList left q u)
  parts q u = subst (λ (l : List (List Segment × V)). InList l q u ↔ (((p ≡ q) × (v ≡ u)) ⊎ InList left q u)) (sym front) (first_or_later p v left q u)

  pub pair_joined : (b : Bool) → b ≡ true → JoinsValue now new p v b → Joining old new (InList all) (InList left)
  pair_joined true e h = joining_more old (InList all) now new (InList rest) (λ q u. (p ≡ q) × (v ≡ u)) (InList left) j h parts
  pair_joined false e h = absurd (true≢false (sym e))

  pub pair_clashes : (part : Lookup V) → ((q : List Segment) (u : V) → InList all q u ↔ (part q ≡ Some u)) → (b : Bool) → b ≡ false → JoinsValue now new p v b → Clash old part
  pair_clashes part are true e h = absurd (true≢false e)
  pair_clashes part are false e h = by (j.only p h.0 h.1)
    where
      there : part p ≡ Some v
      there = (are p v).0 (j.within p v ((parts p v).1 (inl (refl, refl))))

      by : (old p ≡ Some h.0) ⊎ InList all p h.0 → Clash old part
      by (inl e) = record { path = p; value = h.0; other = v; here = e; there = there; differ = h.2 }
      by (inr i) = absurd (h.2 (one_some h.0 v (sym ((are p h.0).0 i) ∙ there)))

pub pairs_joined : {V : Type 0} (old now part : Lookup V) (all rest : List (List Segment × V)) → Joining old now (InList all) (InList rest)
    → rest ≡ [] → ((q : List Segment) (u : V) → InList all q u ↔ (part q ≡ Some u))
    → Gains old now (λ q u. part q ≡ Some u)
pairs_joined {V} old now part all rest j none are q u = (λ e. to (g.0 e), λ r. g.1 (from r))
  where
    g : (now q ≡ Some u) ↔ ((old q ≡ Some u) ⊎ InList all q u)
    g = joined old (InList all) now (InList rest) j (λ p v i. subst (λ (l : List (List Segment × V)). InList l p v) none i) q u

    to : (old q ≡ Some u) ⊎ InList all q u → (old q ≡ Some u) ⊎ (part q ≡ Some u)
    to (inl e) = inl e
    to (inr i) = inr ((are q u).0 i)

    from : (old q ≡ Some u) ⊎ (part q ≡ Some u) → (old q ≡ Some u) ⊎ InList all q u
    from (inl e) = inl e
    from (inr e) = inr ((are q u).1 e)
