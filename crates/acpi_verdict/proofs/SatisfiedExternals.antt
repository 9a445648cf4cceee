-- Satisfied Externals that are added to a list.
use Rattle.std.proofs.Common.{◌≡◌, ◌≢◌, ◌⊎◌, inl, inr, ℕ, true, false, true≢false, List, [], ◌∷◌, ◌++◌, Some, None, refl, sym, ap, subst, ◌∙◌}
use Rattle.std.specs.BTreeMap.{BTreeMap}
use Rattle.std.specs.BTreeMap as tree
use Rattle.std.specs.FinMap.{get}
use Rattle.std.specs.Global.{Vec}
use Rattle.acpi_name.specs.Names.{Segment}
use Rattle.acpi_name.specs.Paths.{path_cmp}
use Rattle.acpi_space.specs.Laws.{Among}
use Rattle.acpi_space.specs.Spaces.{PathMap}
use Rattle.acpi_space.proofs.Elements.{among_append, among_both, not_both, one_some}
use Rattle.acpi_verdict.specs.declared.definers.Definer.{Definer}
use Rattle.acpi_verdict.specs.declared.definers.Definers.{Definers}
use Rattle.acpi_verdict.specs.declared.verdicts.Satisfied.{Satisfied}
use Rattle.acpi_verdict.specs.steps.Defining.{takes, IsOther}
use Rattle.acpi_verdict.specs.steps.Finding.{AddsSatisfied, IsSatisfiedFor, IsSatisfiedAt, IsSatisfiedByAny, IsSatisfiedOf}

-- ---- lists

pub adds_none : (found : List Satisfied) (P : Satisfied → Type 0) → ((s : Satisfied) → P s → ⊥) → AddsSatisfied found found P
adds_none found P none s = ((λ m. inl m), by)
  where
    by : Among found s ⊎ P s → Among found s
    by (inl m) = m
    by (inr h) = absurd (none s h)

pub adds_both : (P Q R : Satisfied → Type 0) → ((s : Satisfied) → P s ⊎ Q s → R s) → ((s : Satisfied) → R s → P s ⊎ Q s) → (old mid new : List Satisfied)
    → AddsSatisfied old mid P → AddsSatisfied mid new Q → AddsSatisfied old new R
adds_both P Q R to from old mid new h k s = ((λ m. first ((k s).0 m)), (λ m. last m))
  where
    before : Among old s ⊎ P s → Among old s ⊎ R s
    before (inl m) = inl m
    before (inr x) = inr (to s (inl x))

    first : Among mid s ⊎ Q s → Among old s ⊎ R s
    first (inl m) = before ((h s).0 m)
    first (inr x) = inr (to s (inr x))

    of_part : P s ⊎ Q s → Among new s
    of_part (inl x) = (k s).1 (inl ((h s).1 (inr x)))
    of_part (inr x) = (k s).1 (inr x)

    last : Among old s ⊎ R s → Among new s
    last (inl m) = (k s).1 (inl ((h s).1 (inl m)))
    last (inr x) = of_part (from s x)

pub adds_same : (P Q : Satisfied → Type 0) → ((s : Satisfied) → P s → Q s) → ((s : Satisfied) → Q s → P s) → (old new : List Satisfied) → AddsSatisfied old new P → AddsSatisfied old new Q
adds_same P Q to from old new h s = ((λ m. there ((h s).0 m)), (λ m. (h s).1 (back m)))
  where
    there : Among old s ⊎ P s → Among old s ⊎ Q s
    there (inl m) = inl m
    there (inr x) = inr (to s x)

    back : Among old s ⊎ Q s → Among old s ⊎ P s
    back (inl m) = inl m
    back (inr x) = inr (from s x)

pub adds_one : (old : List Satisfied) (k : Satisfied) → AddsSatisfied old (old ++ k ∷ []) (λ s. k ≡ s)
adds_one old k s = (to, from)
  where
    to : Among (old ++ k ∷ []) s → Among old s ⊎ (k ≡ s)
    to m = by (among_append old (k ∷ []) s m)
      where
        by : Among old s ⊎ Among (k ∷ []) s → Among old s ⊎ (k ≡ s)
        by (inl h) = inl h
        by (inr (inl e)) = inr e
        by (inr (inr h)) = absurd h

    from : Among old s ⊎ (k ≡ s) → Among (old ++ k ∷ []) s
    from (inl h) = among_both old (k ∷ []) s (inl h)
    from (inr e) = among_both old (k ∷ []) s (inr (inl e))

-- ---- one SSDT

module _ (user : ℕ) (p : List Segment) (n : ℕ) (x : Definer) where
  abbrev Met : Satisfied → Type 0
  Met = IsSatisfiedByAny user p n (x ∷ [])

  abbrev this : Satisfied
  this = record { user = user; definer = x.number; path = p }

  pub met_own : (found : List Satisfied) → x.number ≡ user → AddsSatisfied found found Met
  met_own found own = adds_none found Met by
    where
      by : (s : Satisfied) → Met s → ⊥
      by s (e, y, inl f, at, ne, k, same, met) = ne (ap (λ (z : Definer). z.number) (sym f) ∙ own)
      by s (e, y, inr m, at, ne, k, same, met) = absurd m

  pub met_other : (found : List Satisfied) → takes x n ≡ false → AddsSatisfied found found Met
  met_other found fails = adds_none found Met by
    where
      by : (s : Satisfied) → Met s → ⊥
      by s (e, y, inl f, at, ne, k, same, met) =
          true≢false (sym met ∙ ap (λ (z : Definer). takes z k) (sym f) ∙ ap (takes x) (sym same.1) ∙ fails)
      by s (e, y, inr m, at, ne, k, same, met) = absurd m

  pub met_here : (old new : List Satisfied) → x.number ≢ user → takes x n ≡ true → AddsSatisfied old new (λ s. this ≡ s) → AddsSatisfied old new Met
  met_here old new other met = adds_same (λ s. this ≡ s) Met to from old new
    where
      to : (s : Satisfied) → this ≡ s → Met s
      to s e = (
        ap (λ (z : Satisfied). z.user) e,
        x,
        inl refl,
        ap (λ (z : Satisfied). z.definer) e,
        other,
        n,
        (ap (λ (z : Satisfied). z.path) e, refl),
        met,
      )

      from : (s : Satisfied) → Met s → this ≡ s
      from s (e, y, inl f, at, ne, k, same, m) =
          let number : x.number ≡ s.definer = ap (λ (z : Definer). z.number) f ∙ at in
          λ i. record { user = e i; definer = number i; path = same.0 i }
      from s (e, y, inr m, at, ne, k, same, m2) = absurd m

-- ---- several

module _ (user : ℕ) (Awaits : List Segment → ℕ → Type 0) where
  pub met_parts : (P Q R : List Segment → Definer → Type 0) → ((q : List Segment) (x : Definer) → P q x ⊎ Q q x → R q x) → ((q : List Segment) (x : Definer) → R q x → P q x ⊎ Q q x)
      → (old mid new : List Satisfied)
      → AddsSatisfied old mid (IsSatisfiedFor user Awaits P) → AddsSatisfied mid new (IsSatisfiedFor user Awaits Q) → AddsSatisfied old new (IsSatisfiedFor user Awaits R)
  met_parts P Q R to from = adds_both (IsSatisfiedFor user Awaits P) (IsSatisfiedFor user Awaits Q) (IsSatisfiedFor user Awaits R) there back
    where
      there : (s : Satisfied) → IsSatisfiedFor user Awaits P s ⊎ IsSatisfiedFor user Awaits Q s → IsSatisfiedFor user Awaits R s
      there s (inl (e, x, m, at, ne, n, awaits, met)) = (e, x, to s.path x (inl m), at, ne, n, awaits, met)
      there s (inr (e, x, m, at, ne, n, awaits, met)) = (e, x, to s.path x (inr m), at, ne, n, awaits, met)

      back : (s : Satisfied) → IsSatisfiedFor user Awaits R s → IsSatisfiedFor user Awaits P s ⊎ IsSatisfiedFor user Awaits Q s
      back s (e, x, m, at, ne, n, awaits, met) = by (from s.path x m)
        where
          by : P s.path x ⊎ Q s.path x → IsSatisfiedFor user Awaits P s ⊎ IsSatisfiedFor user Awaits Q s
          by (inl k) = inl (e, x, k, at, ne, n, awaits, met)
          by (inr k) = inr (e, x, k, at, ne, n, awaits, met)

module _ (user : ℕ) (p : List Segment) (n : ℕ) where
  pub any_none : (found : List Satisfied) → AddsSatisfied found found (IsSatisfiedByAny user p n [])
  any_none found = adds_none found (IsSatisfiedByAny user p n []) (λ s h. h.2)

  pub any_more : (x : Definer) (xs : List Definer) (old mid new : List Satisfied) → AddsSatisfied old mid (IsSatisfiedByAny user p n (x ∷ [])) → AddsSatisfied mid new (IsSatisfiedByAny user p n xs)
      → AddsSatisfied old new (IsSatisfiedByAny user p n (x ∷ xs))
  any_more x xs = met_parts user (λ q k. (p ≡ q) × (n ≡ k)) (λ q y. Among (x ∷ []) y) (λ q y. Among xs y) (λ q y. Among (x ∷ xs) y) to from
    where
      to : (q : List Segment) (y : Definer) → Among (x ∷ []) y ⊎ Among xs y → Among (x ∷ xs) y
      to q y (inl (inl e)) = inl e
      to q y (inl (inr m)) = absurd m
      to q y (inr m) = inr m

      from : (q : List Segment) (y : Definer) → Among (x ∷ xs) y → Among (x ∷ []) y ⊎ Among xs y
      from q y (inl e) = inl (inl e)
      from q y (inr m) = inr m

-- ---- those that are noted at a path

module _ (user : ℕ) (p : List Segment) (n : ℕ) where
  -- these are all of whom P holds there
  pub met_listed : (P : List Segment → Definer → Type 0) (xs : List Definer) → ((x : Definer) → Among xs x → P p x) → ((x : Definer) → P p x → Among xs x) → (old new : List Satisfied)
      → AddsSatisfied old new (IsSatisfiedByAny user p n xs) → AddsSatisfied old new (IsSatisfiedAt user p n P)
  met_listed P xs listed all = adds_same (IsSatisfiedByAny user p n xs) (IsSatisfiedAt user p n P) to from
    where
      to : (s : Satisfied) → IsSatisfiedByAny user p n xs s → IsSatisfiedAt user p n P s
      to s (e, x, m, at, ne, k, here, met) = (e, x, subst (λ (q : List Segment). P q x) here.0 (listed x m), at, ne, k, here, met)

      from : (s : Satisfied) → IsSatisfiedAt user p n P s → IsSatisfiedByAny user p n xs s
      from s (e, x, holds, at, ne, k, here, met) = (e, x, all x (subst (λ (q : List Segment). P q x) (sym here.0) holds), at, ne, k, here, met)

  pub first_met : (firsts : PathMap Definer) (x : Definer) → get firsts p ≡ Some x → (old new : List Satisfied)
      → AddsSatisfied old new (IsSatisfiedByAny user p n (x ∷ [])) → AddsSatisfied old new (IsSatisfiedAt user p n (λ q y. get firsts q ≡ Some y))
  first_met firsts x there = met_listed (λ q y. get firsts q ≡ Some y) (x ∷ []) listed (λ y e. inl (one_some x y (sym there ∙ e)))
    where
      listed : (y : Definer) → Among (x ∷ []) y → get firsts p ≡ Some y
      listed y (inl e) = there ∙ ap (λ (z : Definer). Some z) e
      listed y (inr m) = absurd m

  pub no_first_met : (firsts : PathMap Definer) → get firsts p ≡ None → (found : List Satisfied) → AddsSatisfied found found (IsSatisfiedAt user p n (λ q y. get firsts q ≡ Some y))
  no_first_met firsts none found =
      met_listed (λ q y. get firsts q ≡ Some y) [] (λ y m. absurd m) (λ y e. absurd (not_both (get firsts p) y e none)) found found (any_none user p n found)

  pub others_met : (others : BTreeMap (List Segment) (Vec Definer)) (xs : Vec Definer) → tree.get path_cmp others p ≡ Some xs → (old new : List Satisfied)
      → AddsSatisfied old new (IsSatisfiedByAny user p n xs.items) → AddsSatisfied old new (IsSatisfiedAt user p n (IsOther others))
  others_met others xs there = met_listed (IsOther others) xs.items (λ y m. (xs, there, m)) all
    where
      all : (y : Definer) → IsOther others p y → Among xs.items y
      all y (ys, is, m) = subst (λ (v : Vec Definer). Among v.items y) (one_some ys xs (sym is ∙ there)) m

  pub no_others_met : (others : BTreeMap (List Segment) (Vec Definer)) → tree.get path_cmp others p ≡ None → (found : List Satisfied)
      → AddsSatisfied found found (IsSatisfiedAt user p n (IsOther others))
  no_others_met others none found =
      met_listed (IsOther others) [] (λ y m. absurd m) (λ y o. absurd (not_both (tree.get path_cmp others p) o.0 o.1 none)) found found (any_none user p n found)

module _ (d : Definers) (user : ℕ) (p : List Segment) (n : ℕ) where
  pub met_noted : (old mid new : List Satisfied) → AddsSatisfied old mid (IsSatisfiedAt user p n (λ q x. get d.first q ≡ Some x)) → AddsSatisfied mid new (IsSatisfiedAt user p n (IsOther d.others))
      → AddsSatisfied old new (IsSatisfiedOf d user ((p, n) ∷ []))
  met_noted = adds_both (IsSatisfiedAt user p n (λ q x. get d.first q ≡ Some x)) (IsSatisfiedAt user p n (IsOther d.others)) (IsSatisfiedOf d user ((p, n) ∷ [])) to from
    where
      pair : (q : List Segment) (k : ℕ) → (p ≡ q) × (n ≡ k) → Among {X = List Segment × ℕ} ((p, n) ∷ []) (q, k)
      pair q k (e, f) = inl (λ i. (e i, f i))

      of_pair : (q : List Segment) (k : ℕ) → Among {X = List Segment × ℕ} ((p, n) ∷ []) (q, k) → (p ≡ q) × (n ≡ k)
      of_pair q k (inl e) = (ap (λ (z : List Segment × ℕ). z.0) e, ap (λ (z : List Segment × ℕ). z.1) e)
      of_pair q k (inr m) = absurd m

      to : (s : Satisfied) → IsSatisfiedAt user p n (λ q x. get d.first q ≡ Some x) s ⊎ IsSatisfiedAt user p n (IsOther d.others) s → IsSatisfiedOf d user ((p, n) ∷ []) s
      to s (inl (e, x, f, at, ne, k, here, met)) = (e, x, inl f, at, ne, k, pair s.path k here, met)
      to s (inr (e, x, o, at, ne, k, here, met)) = (e, x, inr o, at, ne, k, pair s.path k here, met)

      from : (s : Satisfied) → IsSatisfiedOf d user ((p, n) ∷ []) s → IsSatisfiedAt user p n (λ q x. get d.first q ≡ Some x) s ⊎ IsSatisfiedAt user p n (IsOther d.others) s
      from s (e, x, inl f, at, ne, k, there, met) = inl (e, x, f, at, ne, k, of_pair s.path k there, met)
      from s (e, x, inr o, at, ne, k, there, met) = inr (e, x, o, at, ne, k, of_pair s.path k there, met)

-- ---- what is awaited

module _ (d : Definers) (user : ℕ) where
  pub are_none : (found : List Satisfied) → AddsSatisfied found found (IsSatisfiedOf d user [])
  are_none found = adds_none found (IsSatisfiedOf d user []) (λ s h. h.6)

  pub are_more : (e : List Segment × ℕ) (es : List (List Segment × ℕ)) (old mid new : List Satisfied) → AddsSatisfied old mid (IsSatisfiedOf d user (e ∷ [])) → AddsSatisfied mid new (IsSatisfiedOf d user es)
      → AddsSatisfied old new (IsSatisfiedOf d user (e ∷ es))
  are_more e es = adds_both (IsSatisfiedOf d user (e ∷ [])) (IsSatisfiedOf d user es) (IsSatisfiedOf d user (e ∷ es)) to from
    where
      to : (s : Satisfied) → IsSatisfiedOf d user (e ∷ []) s ⊎ IsSatisfiedOf d user es s → IsSatisfiedOf d user (e ∷ es) s
      to s (inl (f, x, m, at, ne, k, inl g, met)) = (f, x, m, at, ne, k, inl g, met)
      to s (inl (f, x, m, at, ne, k, inr g, met)) = absurd g
      to s (inr (f, x, m, at, ne, k, g, met)) = (f, x, m, at, ne, k, inr g, met)

      from : (s : Satisfied) → IsSatisfiedOf d user (e ∷ es) s → IsSatisfiedOf d user (e ∷ []) s ⊎ IsSatisfiedOf d user es s
      from s (f, x, m, at, ne, k, inl g, met) = inl (f, x, m, at, ne, k, inl g, met)
      from s (f, x, m, at, ne, k, inr g, met) = inr (f, x, m, at, ne, k, g, met)
