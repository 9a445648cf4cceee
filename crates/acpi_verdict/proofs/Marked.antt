-- Numbers of SSDTs that are marked.
use Rattle.std.proofs.Common.{◌≡◌, ◌⊎◌, inl, inr, ℕ, zero, suc, Bool, true, false, ◌||◌, List, [], ◌∷◌, set, Some, None, refl, sym, ap, subst, ◌∙◌}
use Rattle.std.specs.BTreeMap.{BTreeMap}
use Rattle.std.specs.BTreeMap as tree
use Rattle.std.specs.FinMap.{get, entries}
use Rattle.std.specs.Global.{Vec}
use Rattle.acpi_name.specs.Names.{Segment}
use Rattle.acpi_name.specs.Paths.{path_cmp}
use Rattle.acpi_space.specs.Laws.{Among}
use Rattle.acpi_space.specs.Spaces.{PathMap, is_defined}
use Rattle.acpi_space.proofs.Elements.{not_both, one_some, some_is}
use Rattle.acpi_verdict.specs.declared.definers.Definer.{Definer}
use Rattle.acpi_verdict.specs.declared.definers.Definers.{Definers}
use Rattle.acpi_verdict.specs.steps.Defining.{IsNoted, IsOther}
use Rattle.acpi_verdict.specs.steps.AffectedSsdts.{IsFirst, IsMarked, Marks, IsNotedAtAny, AreAffected}
use Rattle.acpi_verdict.specs.declared.misses.Misses.{Misses}
use Rattle.acpi_verdict.proofs.PathSets.{pair_is}

kept : (flags : List Bool) (i k : ℕ) → IsMarked flags k → IsMarked (set flags i true) k
kept [] i k h = h
kept (f ∷ fs) zero zero h = refl
kept (f ∷ fs) zero (suc k) h = h
kept (f ∷ fs) (suc i) zero h = h
kept (f ∷ fs) (suc i) (suc k) h = kept fs i k h

marked : (flags : List Bool) (i : ℕ) → IsMarked (set flags i true) i
marked [] i = refl
marked (f ∷ fs) zero = refl
marked (f ∷ fs) (suc i) = marked fs i

-- ---- of one, of none, of two kinds

pub marks_none : (flags : List Bool) (P : Definer → Type 0) → ((x : Definer) → P x → ⊥) → Marks flags flags P
marks_none flags P none = record { keeps = λ k h. h; adds = λ x h. absurd (none x h) }

pub marks_as : (P Q : Definer → Type 0) (old new : List Bool) → ((x : Definer) → Q x → P x) → Marks old new P → Marks old new Q
marks_as P Q old new of h = record { keeps = h.keeps; adds = λ x q. h.adds x (of x q) }

pub marks_both : (P Q R : Definer → Type 0) (old mid new : List Bool) → ((x : Definer) → R x → P x ⊎ Q x) → Marks old mid P → Marks mid new Q → Marks old new R
marks_both P Q R old mid new parts h k = record { keeps = λ n m. k.keeps n (h.keeps n m); adds = λ x r. by x (parts x r) }
  where
    by : (x : Definer) → P x ⊎ Q x → IsMarked new x.number
    by x (inl p) = k.keeps x.number (h.adds x p)
    by x (inr q) = k.adds x q

pub marks_one : (x : Definer) (P : Definer → Type 0) (old new : List Bool) → new ≡ set old x.number true → ((y : Definer) → P y → x ≡ y) → Marks old new P
marks_one x P old new is only = record {
  keeps = λ k h. subst (λ (fs : List Bool). IsMarked fs k) (sym is) (kept old x.number k h);
  adds = λ y h. subst (λ (fs : List Bool). IsMarked fs y.number) (sym is) (subst (λ (z : Definer). IsMarked (set old x.number true) z.number) (only y h) (marked old x.number));
}

-- ---- of a list

pub more_marked : (x : Definer) (xs : List Definer) (old mid new : List Bool) → mid ≡ set old x.number true → Marks mid new (Among xs) → Marks old new (Among (x ∷ xs))
more_marked x xs old mid new is rest =
    marks_both (λ y. x ≡ y) (Among xs) (Among (x ∷ xs)) old mid new (λ y m. m) (marks_one x (λ y. x ≡ y) old mid is (λ y e. e)) rest

-- ---- of a path

module _ (d : Definers) (p : List Segment) where
  pub first_marked : (x : Definer) → get d.first p ≡ Some x → (old new : List Bool) → new ≡ set old x.number true → Marks old new (IsFirst d p)
  first_marked x there old new is = marks_one x (IsFirst d p) old new is (λ y at. one_some x y (sym there ∙ at))

  pub no_first_marked : get d.first p ≡ None → (flags : List Bool) → Marks flags flags (IsFirst d p)
  no_first_marked none flags = marks_none flags (IsFirst d p) (λ y at. not_both (get d.first p) y at none)

module _ (others : BTreeMap (List Segment) (Vec Definer)) (p : List Segment) where
  pub others_marked : (xs : Vec Definer) → tree.get path_cmp others p ≡ Some xs → (old new : List Bool) → Marks old new (Among xs.items) → Marks old new (IsOther others p)
  others_marked xs there old new = marks_as (Among xs.items) (IsOther others p) old new all
    where
      all : (y : Definer) → IsOther others p y → Among xs.items y
      all y (ys, is, m) = subst (λ (v : Vec Definer). Among v.items y) (one_some ys xs (sym is ∙ there)) m

  pub no_others_marked : tree.get path_cmp others p ≡ None → (flags : List Bool) → Marks flags flags (IsOther others p)
  no_others_marked none flags = marks_none flags (IsOther others p) (λ y o. not_both (tree.get path_cmp others p) o.0 o.1 none)

-- ---- of several paths

pub no_paths_marked : {V : Type 0} (d : Definers) (flags : List Bool) → Marks flags flags (IsNotedAtAny {V = V} d [])
no_paths_marked {V = V} d flags = marks_none flags (IsNotedAtAny {V = V} d []) (λ x h. h.2)

pub more_paths_marked : {V : Type 0} (d : Definers) (p : List Segment) (v : V) (es : List (List Segment × V)) (old one two new : List Bool)
    → Marks old one (IsFirst d p) → Marks one two (IsOther d.others p) → Marks two new (IsNotedAtAny d es) → Marks old new (IsNotedAtAny d ((p, v) ∷ es))
more_paths_marked {V} d p v es old one two new first others rest =
    marks_both (IsFirst d p) (λ x. IsOther d.others p x ⊎ IsNotedAtAny d es x) (IsNotedAtAny d ((p, v) ∷ es)) old one new parts first
    (marks_both (IsOther d.others p) (IsNotedAtAny d es) (λ x. IsOther d.others p x ⊎ IsNotedAtAny d es x) one two new (λ x h. h) others rest)
  where
    here : (q : List Segment) (x : Definer) → p ≡ q → (IsFirst d q x ⊎ IsOther d.others q x) → IsFirst d p x ⊎ IsOther d.others p x ⊎ IsNotedAtAny d es x
    here q x e (inl f) = inl (subst (λ (r : List Segment). IsFirst d r x) (sym e) f)
    here q x e (inr o) = inr (inl (subst (λ (r : List Segment). IsOther d.others r x) (sym e) o))

    parts : (x : Definer) → IsNotedAtAny d ((p, v) ∷ es) x → IsFirst d p x ⊎ IsOther d.others p x ⊎ IsNotedAtAny d es x
    parts x (q, w, inl e, noted) = here q x (ap (λ (z : List Segment × V). z.0) e) noted
    parts x (q, w, inr m, noted) = inr (inr (q, w, m, noted))

-- ---- of what the DSDT missed and awaits

either : (a b : Bool) → a || b ≡ true → (a ≡ true) ⊎ (b ≡ true)
either true b e = inl refl
either false b e = inr e

noted_at_any : {V : Type 0} (d : Definers) (m : PathMap V) (p : List Segment) (x : Definer) → is_defined m p ≡ true → IsNoted d p x → IsNotedAtAny d (entries m) x
noted_at_any d m p x e noted = let r = some_is (get m p) e in (p, r.0, (pair_is m p r.0).1 r.1, noted)

pub all_affected : (d : Definers) (t : Misses) (old mid new : List Bool) → Marks old mid (IsNotedAtAny d (entries t.missed)) → Marks mid new (IsNotedAtAny d (entries t.awaited))
    → AreAffected d t new
all_affected d t old mid new missed awaited p x misses noted = by (either (is_defined t.missed p) (is_defined t.awaited p) misses)
  where
    by : (is_defined t.missed p ≡ true) ⊎ (is_defined t.awaited p ≡ true) → IsMarked new x.number
    by (inl e) = awaited.keeps x.number (missed.adds x (noted_at_any d t.missed p x e noted))
    by (inr e) = awaited.adds x (noted_at_any d t.awaited p x e noted)
