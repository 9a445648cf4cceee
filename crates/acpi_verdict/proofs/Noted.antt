-- Who is noted at a path.
use Rattle.std.proofs.Common.{◌≡◌, ◌⊎◌, inl, inr, Bool, true, false, cond, List, [], ◌∷◌, ◌++◌, Option, Some, None, refl, sym, ap, subst, ◌∙◌}
use Rattle.std.specs.BTreeMap.{BTreeMap}
use Rattle.std.specs.BTreeMap as tree
use Rattle.std.specs.FinMap.{get, insert, get-insert}
use Rattle.std.specs.Global.{Vec}
use Rattle.acpi_name.specs.Names.{Segment}
use Rattle.acpi_name.specs.Paths.{path_cmp}
use Rattle.acpi_name.specs.steps.PathOrder.{path_cmp_total}
use Rattle.acpi_space.specs.Laws.{Among}
use Rattle.acpi_space.specs.Lookups.{is_same_path}
use Rattle.acpi_space.specs.Spaces.{PathMap}
use Rattle.acpi_space.proofs.Comparisons.{path_itself}
use Rattle.acpi_space.proofs.Elements.{among_append, among_both, not_both, one_some}
use Rattle.acpi_pass.proofs.Unions.{path_same}
use Rattle.acpi_verdict.specs.declared.definers.Definer.{Definer}
use Rattle.acpi_verdict.specs.declared.definers.Definers.{Definers}
use Rattle.acpi_verdict.specs.steps.Defining.{IsOther, IsNoted, AddsOther, AddsDefiner}

abbrev Others : Type 0
Others = BTreeMap (List Segment) (Vec Definer)

abbrev pub items_of : Option (Vec Definer) → List Definer
items_of None = []
items_of (Some xs) = xs.items

-- taken out and put back, with another list
pub cond_twice : {X : Type 0} (b : Bool) (now old : X) (mid : X) (away : X) → mid ≡ cond b away old → cond b now mid ≡ cond b now old
cond_twice true now old mid away e = refl
cond_twice false now old mid away e = e

-- ---- one of the others more

module _ (old new : Others) (p : List Segment) (x : Definer) (now : Vec Definer) (grown : now.items ≡ items_of (tree.get path_cmp old p) ++ x ∷ [])
    (there : (q : List Segment) → tree.get path_cmp new q ≡ cond (is_same_path p q) (Some now) (tree.get path_cmp old q)) where
  was : (o : Option (Vec Definer)) → tree.get path_cmp old p ≡ o → (y : Definer) → Among (items_of o) y → IsOther old p y
  was None e y m = absurd m
  was (Some xs) e y m = (xs, e, m)

  here : (y : Definer) → Among now.items y → IsOther old p y ⊎ (x ≡ y)
  here y m = by (among_append (items_of (tree.get path_cmp old p)) (x ∷ []) y (subst (λ (ys : List Definer). Among ys y) grown m))
    where
      by : Among (items_of (tree.get path_cmp old p)) y ⊎ Among (x ∷ []) y → IsOther old p y ⊎ (x ≡ y)
      by (inl k) = inl (was (tree.get path_cmp old p) refl y k)
      by (inr (inl e)) = inr e
      by (inr (inr k)) = absurd k

  in_now : (y : Definer) → Among (items_of (tree.get path_cmp old p)) y ⊎ (x ≡ y) → Among now.items y
  in_now y (inl k) = subst (λ (ys : List Definer). Among ys y) (sym grown) (among_both (items_of (tree.get path_cmp old p)) (x ∷ []) y (inl k))
  in_now y (inr e) = subst (λ (ys : List Definer). Among ys y) (sym grown) (among_both (items_of (tree.get path_cmp old p)) (x ∷ []) y (inr (inl e)))

  at_path : tree.get path_cmp new p ≡ Some now
  at_path = there p ∙ ap (λ b. cond b (Some now) (tree.get path_cmp old p)) (path_itself p)

  to : (q : List Segment) (y : Definer) → (b : Bool) → is_same_path p q ≡ b → IsOther new q y → IsOther old q y ⊎ ((p ≡ q) × (x ≡ y))
  to q y true e (xs, is, m) =
      let same : p ≡ q = path_same p q e in
      let listed : now ≡ xs = one_some now xs (sym (there q ∙ ap (λ b. cond b (Some now) (tree.get path_cmp old q)) e) ∙ is) in
      by same (here y (subst (λ (v : Vec Definer). Among v.items y) (sym listed) m))
    where
      by : p ≡ q → IsOther old p y ⊎ (x ≡ y) → IsOther old q y ⊎ ((p ≡ q) × (x ≡ y))
      by same (inl k) = inl (subst (λ (r : List Segment). IsOther old r y) same k)
      by same (inr f) = inr (same, f)
  to q y false e (xs, is, m) = inl (xs, sym (there q ∙ ap (λ b. cond b (Some now) (tree.get path_cmp old q)) e) ∙ is, m)

  from : (q : List Segment) (y : Definer) → (b : Bool) → is_same_path p q ≡ b → IsOther old q y ⊎ ((p ≡ q) × (x ≡ y)) → IsOther new q y
  from q y b e (inr (same, f)) = (now, subst (λ (r : List Segment). tree.get path_cmp new r ≡ Some now) same at_path, in_now y (inr f))
  from q y true e (inl (xs, is, m)) =
      let same : p ≡ q = path_same p q e in
      let old_is : tree.get path_cmp old p ≡ Some xs = subst (λ (r : List Segment). tree.get path_cmp old r ≡ Some xs) (sym same) is in (
        now,
        subst (λ (r : List Segment). tree.get path_cmp new r ≡ Some now) same at_path,
        in_now y (inl (subst (λ (o : Option (Vec Definer)). Among (items_of o) y) (sym old_is) m)),
      )
  from q y false e (inl (xs, is, m)) = (xs, there q ∙ ap (λ b. cond b (Some now) (tree.get path_cmp old q)) e ∙ is, m)

  pub other_added : AddsOther old new p x
  other_added q y = (to q y (is_same_path p q) refl, from q y (is_same_path p q) refl)

-- ---- the first at a path

-- nothing is first noted anew where something stands
pub other_noted : (old new : Definers) (p : List Segment) (x z : Definer) → get old.first p ≡ Some z → new.first ≡ old.first → AddsOther old.others new.others p x
    → AddsDefiner old new p x
other_noted old new p x z there same added = record { noted = λ q y. (to q y, from q y); firsts = λ q y. (λ e. inl (sym (at q) ∙ e), back q y) }
  where
    at : (q : List Segment) → get new.first q ≡ get old.first q
    at q = ap (λ (m : PathMap Definer). get m q) same

    to : (q : List Segment) (y : Definer) → IsNoted new q y → IsNoted old q y ⊎ ((p ≡ q) × (x ≡ y))
    to q y (inl e) = inl (inl (sym (at q) ∙ e))
    to q y (inr o) = by ((added q y).0 o)
      where
        by : IsOther old.others q y ⊎ ((p ≡ q) × (x ≡ y)) → IsNoted old q y ⊎ ((p ≡ q) × (x ≡ y))
        by (inl k) = inl (inr k)
        by (inr k) = inr k

    from : (q : List Segment) (y : Definer) → IsNoted old q y ⊎ ((p ≡ q) × (x ≡ y)) → IsNoted new q y
    from q y (inl (inl e)) = inl (at q ∙ e)
    from q y (inl (inr o)) = inr ((added q y).1 (inl o))
    from q y (inr k) = inr ((added q y).1 (inr k))

    back : (q : List Segment) (y : Definer) → (get old.first q ≡ Some y) ⊎ ((get old.first q ≡ None) × (p ≡ q) × (x ≡ y)) → get new.first q ≡ Some y
    back q y (inl e) = at q ∙ e
    back q y (inr (none, same_path, f)) = absurd (not_both (get old.first p) z there (subst (λ (r : List Segment). get old.first r ≡ None) (sym same_path) none))

pub first_noted : (old new : Definers) (p : List Segment) (x : Definer) → get old.first p ≡ None → new.first ≡ insert old.first p x → new.others ≡ old.others
    → AddsDefiner old new p x
first_noted old new p x none put same = record { noted = λ q y. (to q y, from q y); firsts = λ q y. (firsts_to q y (is_same_path q p) refl, firsts_from q y) }
  where
    at : (q : List Segment) → get new.first q ≡ cond (is_same_path q p) (Some x) (get old.first q)
    at q = ap (λ (m : PathMap Definer). get m q) put ∙ get-insert path_cmp_total old.first p x q

    firsts_to : (q : List Segment) (y : Definer) → (b : Bool) → is_same_path q p ≡ b → get new.first q ≡ Some y
        → (get old.first q ≡ Some y) ⊎ ((get old.first q ≡ None) × (p ≡ q) × (x ≡ y))
    firsts_to q y true e is =
        let same_path : p ≡ q = sym (path_same q p e) in
        inr (subst (λ (r : List Segment). get old.first r ≡ None) same_path none, same_path, one_some x y (sym (at q ∙ ap (λ b. cond b (Some x) (get old.first q)) e) ∙ is))
    firsts_to q y false e is = inl (sym (at q ∙ ap (λ b. cond b (Some x) (get old.first q)) e) ∙ is)

    here : get new.first p ≡ Some x
    here = at p ∙ ap (λ b. cond b (Some x) (get old.first p)) (path_itself p)

    firsts_from : (q : List Segment) (y : Definer) → (get old.first q ≡ Some y) ⊎ ((get old.first q ≡ None) × (p ≡ q) × (x ≡ y)) → get new.first q ≡ Some y
    firsts_from q y (inr (free, same_path, f)) =
        subst (λ (r : List Segment). get new.first r ≡ Some y) same_path (here ∙ ap (λ (z : Definer). Some z) f)
    firsts_from q y (inl e) = by (is_same_path q p) refl
      where
        by : (b : Bool) → is_same_path q p ≡ b → get new.first q ≡ Some y
        by true s = absurd (not_both (get old.first p) y (subst (λ (r : List Segment). get old.first r ≡ Some y) (path_same q p s) e) none)
        by false s = at q ∙ ap (λ b. cond b (Some x) (get old.first q)) s ∙ e

    to : (q : List Segment) (y : Definer) → IsNoted new q y → IsNoted old q y ⊎ ((p ≡ q) × (x ≡ y))
    to q y (inl e) = by (firsts_to q y (is_same_path q p) refl e)
      where
        by : (get old.first q ≡ Some y) ⊎ ((get old.first q ≡ None) × (p ≡ q) × (x ≡ y)) → IsNoted old q y ⊎ ((p ≡ q) × (x ≡ y))
        by (inl f) = inl (inl f)
        by (inr f) = inr (f.1, f.2)
    to q y (inr o) = inl (inr (subst (λ (m : Others). IsOther m q y) same o))

    from : (q : List Segment) (y : Definer) → IsNoted old q y ⊎ ((p ≡ q) × (x ≡ y)) → IsNoted new q y
    from q y (inl (inl e)) = inl (firsts_from q y (inl e))
    from q y (inl (inr o)) = inr (subst (λ (m : Others). IsOther m q y) (sym same) o)
    from q y (inr (same_path, f)) =
        inl (subst (λ (r : List Segment). get new.first r ≡ Some y) same_path (here ∙ ap (λ (z : Definer). Some z) f))
