-- What a search finds and misses, in the words of the standard.
use Rattle.std.proofs.Common.{◌≡◌, ◌<◌, ◌⊎◌, ◌↔◌, inl, inr, Bool, true, false, cond, List, [], ◌∷◌, ◌++◌, map, find, length, option_to_list, Option, Some, None, true≢false, refl, sym, ap, ◌∙◌, subst, arith, length-append}
use Rattle.std.specs.Option.{option_map}
use Rattle.std.specs.List.{AllByRecursion}
use Rattle.acpi_name.specs.Names.{Segment, NameParts, plain_segment}
use Rattle.acpi_name.specs.Paths.{place_of}
use Rattle.acpi_space.specs.Search.{beginnings, skipped, tries, tries_of}
use Rattle.acpi_space.specs.Laws.{Among, IsBelow, IsLongestAnswer, IsPast, IsPlaceAnswer, MissedArePast, MissedIsPlace, OtherIsAtPlace, PlainIsLongest}
use Rattle.acpi_space.proofs.Beginnings.{FoundAs, find_longest, find_map}

below : (defined : List Segment → Bool) (s : List Segment) (g : Segment) (o : Option (List Segment)) → FoundAs (λ q. defined (q ++ g ∷ [])) s o
    → IsLongestAnswer defined s g (option_map (λ q. q ++ g ∷ []) o)
below defined s g None h = h
below defined s g (Some q) h = (q, refl, h)

pub plain_is_longest : PlainIsLongest
plain_is_longest defined s n g e =
    subst (IsLongestAnswer defined s g)
    (sym (ap (λ o. find defined (tries_of s n o)) e ∙ find_map defined (λ q. q ++ g ∷ []) (beginnings s)))
    (below defined s g _ (find_longest (λ q. defined (q ++ g ∷ [])) s))

at_place : (defined : List Segment → Bool) (place : Option (List Segment)) → IsPlaceAnswer defined place (find defined (option_to_list place))
at_place defined None = λ p e. cc
at_place defined (Some p) = by (defined p) refl
  where
    by : (b : Bool) → defined p ≡ b → IsPlaceAnswer defined (Some p) (cond b (Some p) None)
    by true e = (refl, e)
    by false e = λ q f. let h : p ≡ q = cc in ap defined (sym h) ∙ e

pub other_is_at_place : OtherIsAtPlace
other_is_at_place defined s n e = subst (IsPlaceAnswer defined (place_of s n)) (sym (ap (λ o. find defined (tries_of s n o)) e)) (at_place defined (place_of s n))

-- ---- what is missed

-- the lists get shorter
abbrev pub Decreasing : {A : Type 0} → List (List A) → Type 0
Decreasing [] = Unit {0}
Decreasing (y ∷ ys) = AllByRecursion (λ z. length z < length y) ys × Decreasing ys

among_all : {X : Type 0} (P : X → Type 0) (l : List X) (x : X) → AllByRecursion P l → Among l x → P x
among_all P [] x a m = absurd m
among_all P (y ∷ l) x a (inl e) = subst P e a.0
among_all P (y ∷ l) x a (inr m) = among_all P l x a.1 m

pub found_among : {A : Type 0} (p : A → Bool) (l : List A) (x : A) → find p l ≡ Some x → Among l x
found_among p [] x e = cc
found_among {A} p (y ∷ l) x e = by (p y) e (found_among p l x)
  where
    by : (b : Bool) → cond b (Some y) (find p l) ≡ Some x → (find p l ≡ Some x → Among l x) → (y ≡ x) ⊎ Among l x
    by true e ih = inl cc
    by false e ih = inr (ih e)

-- .. in a list whose elements get shorter
past : {A : Type 0} (p : List A → Bool) (l : List (List A)) → Decreasing l → (x : List A) → Among (skipped p l) x ↔ (Among l x × IsPast (find p l) x)
past p [] d x = (λ m. absurd m, λ m. m.0)
past {A} p (y ∷ l) d x = by (p y) (past p l d.1 x)
  where
    first : (o : Option (List A)) → find p l ≡ o → y ≡ x → IsPast o x
    first None e h = tt
    first (Some z) e h = let lt : length z < length y = among_all (λ z. length z < length y) l z d.0 (found_among p l z e) in subst (λ r. length z < length r) h lt

    by : (b : Bool) → Among (skipped p l) x ↔ (Among l x × IsPast (find p l) x) → Among (cond b [] (y ∷ skipped p l)) x
        ↔ (((y ≡ x) ⊎ Among l x) × IsPast (cond b (Some y) (find p l)) x)
    by true ih = (λ m. absurd m, λ m. none m.0 m.1)
      where
        none : (y ≡ x) ⊎ Among l x → length y < length x → ⊥
        none (inl e) lt = let l : length y ≡ length x = ap length e in omega arith
        none (inr m) lt = let gt : length x < length y = among_all (λ z. length z < length y) l x d.0 m in omega arith
    by false ih = (to, from)
      where
        to : (y ≡ x) ⊎ Among (skipped p l) x → ((y ≡ x) ⊎ Among l x) × IsPast (find p l) x
        to (inl e) = (inl e, first (find p l) refl e)
        to (inr m) = (inr (ih.0 m).0, (ih.0 m).1)

        from : (((y ≡ x) ⊎ Among l x) × IsPast (find p l) x) → (y ≡ x) ⊎ Among (skipped p l) x
        from (inl e, h) = inl e
        from (inr m, h) = inr (ih.1 (m, h))

shorter_under : {A : Type 0} (x : A) (q : List A) (l : List (List A)) → AllByRecursion (λ z. length z < length q) l
    → AllByRecursion (λ z. length z < length (x ∷ q)) (map (λ q. x ∷ q) l ++ [] ∷ [])
shorter_under x q [] a = (omega arith, tt)
shorter_under x q (z ∷ l) a = let lt : length z < length q = a.0 in (omega arith, shorter_under x q l a.1)

decreasing_under : {A : Type 0} (x : A) (l : List (List A)) → Decreasing l → Decreasing (map (λ q. x ∷ q) l ++ [] ∷ [])
decreasing_under x [] d = (tt, tt)
decreasing_under x (q ∷ l) d = (shorter_under x q l d.0, decreasing_under x l d.1)

beginnings_decrease : {A : Type 0} (xs : List A) → Decreasing (beginnings xs)
beginnings_decrease [] = (tt, tt)
beginnings_decrease (x ∷ xs) = decreasing_under x (beginnings xs) (beginnings_decrease xs)

decreasing_below : {A : Type 0} (g : A) (l : List (List A)) → Decreasing l → Decreasing (map (λ q. q ++ g ∷ []) l)
decreasing_below g [] d = tt
decreasing_below {A} g (y ∷ l) d = (shorter l d.0, decreasing_below g l d.1)
  where
    shorter : (l : List (List A)) → AllByRecursion (λ z. length z < length y) l → AllByRecursion (λ z. length z < length (y ++ g ∷ [])) (map (λ q. q ++ g ∷ []) l)
    shorter [] a = tt
    shorter (z ∷ l) a = let lt : length z < length y = a.0 in (omega (arith, lt, length-append z (g ∷ []), length-append y (g ∷ [])), shorter l a.1)

-- what a search tries gets shorter
pub tries_decrease : (s : List Segment) (n : NameParts) → Decreasing (tries s n)
tries_decrease s n = by (plain_segment n)
  where
    place : (o : Option (List Segment)) → Decreasing (option_to_list o)
    place None = tt
    place (Some p) = (tt, tt)

    by : (o : Option Segment) → Decreasing (tries_of s n o)
    by None = place (place_of s n)
    by (Some g) = decreasing_below g (beginnings s) (beginnings_decrease s)

among_map : {A B : Type 0} (f : A → B) (l : List A) (y : B) → Among (map f l) y ↔ ((x : A) × Among l x × (y ≡ f x))
among_map f [] y = (λ m. absurd m, λ m. m.1)
among_map {A} f (z ∷ l) y = (to (among_map f l y).0, λ m. from (among_map f l y).1 m.0 m.1 m.2)
  where
    to : (Among (map f l) y → (x : A) × Among l x × (y ≡ f x)) → (f z ≡ y) ⊎ Among (map f l) y → (x : A) × ((z ≡ x) ⊎ Among l x) × (y ≡ f x)
    to ih (inl e) = (z, inl refl, sym e)
    to ih (inr m) = let r : (x : A) × Among l x × (y ≡ f x) = ih m in (r.0, inr r.1, r.2)

    from : (((x : A) × Among l x × (y ≡ f x)) → Among (map f l) y) → (x : A) → (z ≡ x) ⊎ Among l x → y ≡ f x → (f z ≡ y) ⊎ Among (map f l) y
    from ih x (inl e) h = inl (ap f e ∙ sym h)
    from ih x (inr m) h = inr (ih (x, m, h))

among_last : {X : Type 0} (l : List X) (y x : X) → Among (l ++ y ∷ []) x ↔ (Among l x ⊎ (y ≡ x))
among_last [] y x = (to, from)
  where
    to : (y ≡ x) ⊎ ⊥ → ⊥ ⊎ (y ≡ x)
    to (inl e) = inr e
    to (inr m) = absurd m

    from : ⊥ ⊎ (y ≡ x) → (y ≡ x) ⊎ ⊥
    from (inl m) = absurd m
    from (inr e) = inl e
among_last {X} (z ∷ l) y x = (to (among_last l y x).0, from (among_last l y x).1)
  where
    to : (Among (l ++ y ∷ []) x → Among l x ⊎ (y ≡ x)) → (z ≡ x) ⊎ Among (l ++ y ∷ []) x → ((z ≡ x) ⊎ Among l x) ⊎ (y ≡ x)
    to ih (inl e) = inl (inl e)
    to ih (inr m) = by (ih m)
      where
        by : Among l x ⊎ (y ≡ x) → ((z ≡ x) ⊎ Among l x) ⊎ (y ≡ x)
        by (inl m) = inl (inr m)
        by (inr e) = inr e

    from : (Among l x ⊎ (y ≡ x) → Among (l ++ y ∷ []) x) → ((z ≡ x) ⊎ Among l x) ⊎ (y ≡ x) → (z ≡ x) ⊎ Among (l ++ y ∷ []) x
    from ih (inl (inl e)) = inl e
    from ih (inl (inr m)) = inr (ih (inl m))
    from ih (inr e) = inr (ih (inr e))

-- the beginnings are what begins the list
begins_it : {A : Type 0} (xs q : List A) → Among (beginnings xs) q → (rest : List A) × (xs ≡ q ++ rest)
begins_it {A} [] q m = by m
  where
    by : ([] ≡ q) ⊎ ⊥ → (rest : List A) × ([] ≡ q ++ rest)
    by (inl e) = ([], ap (λ l. l ++ []) e)
    by (inr m) = absurd m
begins_it {A} (x ∷ xs) q m = by (begins_it xs) ((among_last (map (λ q. x ∷ q) (beginnings xs)) [] q).0 m)
  where
    by : ((r : List A) → Among (beginnings xs) r → (rest : List A) × (xs ≡ r ++ rest)) → Among (map (λ q. x ∷ q) (beginnings xs)) q ⊎ ([] ≡ q) → (rest : List A)
        × (x ∷ xs ≡ q ++ rest)
    by ih (inl k) =
        let r : (r : List A) × Among (beginnings xs) r × (q ≡ x ∷ r) = (among_map (λ q. x ∷ q) (beginnings xs) q).0 k in
        let t : (rest : List A) × (xs ≡ r.0 ++ rest) = ih r.0 r.1 in
        (t.0, ap (λ l. x ∷ l) t.1 ∙ ap (λ l. l ++ t.0) (sym r.2))
    by ih (inr e) = (x ∷ xs, ap (λ l. l ++ x ∷ xs) e)

is_beginning : {A : Type 0} (xs q rest : List A) → xs ≡ q ++ rest → Among (beginnings xs) q
is_beginning [] [] rest e = inl refl
is_beginning [] (y ∷ q) rest e = cc
is_beginning (x ∷ xs) [] rest e = (among_last (map (λ q. x ∷ q) (beginnings xs)) [] []).1 (inr refl)
is_beginning (x ∷ xs) (y ∷ q) rest e =
    let head : x ≡ y = cc in
    let tail : xs ≡ q ++ rest = cc in
    (among_last (map (λ q. x ∷ q) (beginnings xs)) [] (y ∷ q)).1 (inl ((among_map (λ q. x ∷ q) (beginnings xs) (y ∷ q)).1 (q, is_beginning xs q rest tail, ap (λ z. z ∷ q) (sym head))))

below_scope : (s : List Segment) (g : Segment) (p : List Segment) → Among (map (λ q. q ++ g ∷ []) (beginnings s)) p ↔ IsBelow s g p
below_scope s g p = (to, from)
  where
    to : Among (map (λ q. q ++ g ∷ []) (beginnings s)) p → IsBelow s g p
    to m =
        let r : (q : List Segment) × Among (beginnings s) q × (p ≡ q ++ g ∷ []) = (among_map (λ q. q ++ g ∷ []) (beginnings s) p).0 m in
        let t : (rest : List Segment) × (s ≡ r.0 ++ rest) = begins_it s r.0 r.1 in
        (r.0, t.0, t.1, r.2)

    from : IsBelow s g p → Among (map (λ q. q ++ g ∷ []) (beginnings s)) p
    from b = (among_map (λ q. q ++ g ∷ []) (beginnings s) p).1 (b.0, is_beginning s b.0 b.1 b.2, b.3)

pub missed_are_past : MissedArePast
missed_are_past defined s n g e p =
    subst (λ o. Among (skipped defined (tries_of s n o)) p ↔ (IsBelow s g p × IsPast (find defined (tries_of s n o)) p)) (sym e)
    (let at : Among (skipped defined (tries_of s n (Some g))) p ↔ (Among (tries_of s n (Some g)) p × IsPast (find defined (tries_of s n (Some g))) p) =
    past defined (tries_of s n (Some g)) (decreasing_below g (beginnings s) (beginnings_decrease s)) p in
    (λ m. ((below_scope s g p).0 (at.0 m).0, (at.0 m).1), λ m. at.1 ((below_scope s g p).1 m.0, m.1)))

missed_place : (defined : List Segment → Bool) (place : Option (List Segment)) (p : List Segment) → Among (skipped defined (option_to_list place)) p
    ↔ ((place ≡ Some p) × (defined p ≡ false))
missed_place defined None p = (λ m. absurd m, λ m. let e : None ≡ Some p = m.0 in cc)
missed_place defined (Some r) p = by (defined r) refl
  where
    by : (b : Bool) → defined r ≡ b → Among (cond b [] (r ∷ [])) p ↔ ((Some r ≡ Some p) × (defined p ≡ false))
    by true d = (λ m. absurd m, λ m. let e : Some r ≡ Some p = m.0 in let h : r ≡ p = cc in absurd (true≢false (sym d ∙ ap defined h ∙ m.1)))
    by false d = (to, λ m. let e : Some r ≡ Some p = m.0 in let h : r ≡ p = cc in inl h)
      where
        to : (r ≡ p) ⊎ ⊥ → (Some r ≡ Some p) × (defined p ≡ false)
        to (inl e) = (ap Some e, ap defined (sym e) ∙ d)
        to (inr m) = absurd m

pub missed_is_place : MissedIsPlace
missed_is_place defined s n e p = subst (λ o. Among (skipped defined (tries_of s n o)) p ↔ ((place_of s n ≡ Some p) × (defined p ≡ false))) (sym e) (missed_place defined (place_of s n) p)
