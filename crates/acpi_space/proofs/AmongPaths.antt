-- The beginnings of a scope that pass a test, from one to the next.
use Rattle.std.proofs.Common.{◌≡◌, ℕ, zero, suc, ◌+◌, ◌-◌, ◌<◌, ◌≤◌, Bool, true, false, cond, List, [], ◌∷◌, ◌++◌, map, find, length, take, drop, Option, Some, None, refl, sym, ap, ◌∙◌, arith, length-append, append_assoc, subst, is_some, not, true≢false, Result, Ok, Err, IfOk}
use Rattle.std.specs.Prelude.{IsTrue}
use Rattle.std.specs.Option.{option_map}
use Rattle.std.specs.List.{filter, last_or}
use Rattle.std.specs.List.{drop-map}
use Rattle.std.proofs.Math.Seq.{take-add, drop-append_seam}
use Rattle.std.proofs.lemmas.List.{append-nil, drop-append-le, length-map, length-take-le, take-take}
use Rattle.std.proofs.lemmas.List.Elements.{filter-append}
use Rattle.acpi_name.specs.Names.{Segment}
use Rattle.acpi_name.specs.Paths.{parent_of}
use Rattle.acpi_name.proofs.Parents.{parent_of_last}
use Rattle.acpi_space.specs.Search.{beginnings, skipped}
use Rattle.acpi_space.specs.steps.Within.{passing, IsInnermost}
use Rattle.acpi_space.proofs.Beginnings.{beginnings_push, found_there, found_within, longest_of_found, longest-take, not_found}
use Rattle.acpi_space.proofs.Climbing.{no_last}
use Rattle.acpi_space.proofs.MissedPaths.{length-beginnings, skipped_found, skipped_map}

pub filter_mapped : {A B : Type 0} (p : B → Bool) (f : A → B) (l : List A) → filter p (map f l) ≡ map f (filter (λ x. p (f x)) l)
filter_mapped p f [] = refl
filter_mapped p f (x ∷ l) =
    elim (p (f x)) as (λ b. cond b (f x ∷ filter p (map f l)) (filter p (map f l)) ≡ map f (cond b (x ∷ filter (λ y. p (f y)) l) (filter (λ y. p (f y)) l))) [
      | true ↦ ap (λ r. f x ∷ r) (filter_mapped p f l)
      | false ↦ filter_mapped p f l
    ]

-- where none passes, and before the first that does
filter_none : {A : Type 0} (p : A → Bool) (n : ℕ) (l : List A) → find p l ≡ None → filter p (take n l) ≡ []
filter_none p zero l e = refl
filter_none p (suc n) [] e = refl
filter_none {A} p (suc n) (x ∷ l) e = by (p x) e (filter_none p n l)
  where
    by : (b : Bool) → cond b (Some x) (find p l) ≡ None → (find p l ≡ None → filter p (take n l) ≡ []) → cond b (x ∷ filter p (take n l)) (filter p (take n l)) ≡ []
    by true e ih = cc
    by false e ih = ih e

skipped_fail : {A : Type 0} (p : A → Bool) (n : ℕ) (l : List A) → filter p (take n (skipped p l)) ≡ []
skipped_fail p zero l = refl
skipped_fail p (suc n) [] = refl
skipped_fail {A} p (suc n) (x ∷ l) = by (p x) refl (skipped_fail p n l)
  where
    by : (b : Bool) → p x ≡ b → filter p (take n (skipped p l)) ≡ [] → filter p (take (suc n) (cond b [] (x ∷ skipped p l))) ≡ []
    by true e ih = refl
    by false e ih = ap (λ b. cond b (x ∷ filter p (take n (skipped p l))) (filter p (take n (skipped p l)))) e ∙ ih

-- the shorter beginnings are those of the one where they begin
shorter_beginnings : {A : Type 0} (xs : List A) (k : ℕ) → k ≤ length xs → drop (length xs - k) (beginnings xs) ≡ beginnings (take k xs)
shorter_beginnings [] zero h = refl
shorter_beginnings [] (suc k) h = absurd (omega arith)
shorter_beginnings (x ∷ xs) zero h =
    let m = map (λ q. x ∷ q) (beginnings xs) in
    let l : length m ≡ length xs + 1 = length-map (beginnings xs) (λ q. x ∷ q) ∙ length-beginnings xs in
    let n : suc (length xs) - 0 ≡ length m = omega (arith, l) in
    ap (λ i. drop i (m ++ [] ∷ [])) n ∙ drop-append_seam m ([] ∷ [])
shorter_beginnings (x ∷ xs) (suc k) h =
    let m = map (λ q. x ∷ q) (beginnings xs) in
    let l : length m ≡ length xs + 1 = length-map (beginnings xs) (λ q. x ∷ q) ∙ length-beginnings xs in
    let n : suc (length xs) - suc k ≡ length xs - k = omega arith in
    ap (λ i. drop i (m ++ [] ∷ [])) n ∙ drop-append-le (length xs - k) m ([] ∷ []) (omega (arith, l))
    ∙ ap (λ r. r ++ [] ∷ []) (drop-map (λ q. x ∷ q) (length xs - k) (beginnings xs) ∙ ap (map (λ q. x ∷ q)) (shorter_beginnings xs k (omega arith)))

module _ {A : Type 0} (p : List A → Bool) (outer : ℕ) (xs : List A) where
  passing_from : (q : List A) → find p (beginnings xs) ≡ Some q → outer ≤ length q → passing p outer xs ≡ passing p outer q
  passing_from q e h =
      let w : (length q ≤ length xs) × (take (length q) xs ≡ q) = longest-take p xs q e in
      let within : length q ≤ length xs = w.0 in
      let m = length xs - length q in
      let j = length q + 1 - outer in
      let n : length xs + 1 - outer ≡ m + j = omega (arith, within) in
      ap (λ i. filter p (take i (beginnings xs))) n
      ∙ ap (filter p) (take-add m j (beginnings xs)) ∙ filter-append p (take m (beginnings xs)) (take j (drop m (beginnings xs)))
      ∙ ap (λ l. l ++ filter p (take j (drop m (beginnings xs)))) (before q e)
      ∙ ap (λ l. filter p (take j l)) (shorter_beginnings xs (length q) within ∙ ap beginnings w.1)
    where
      take_whole : (l : List (List A)) → take (length l) l ≡ l
      take_whole [] = refl
      take_whole (y ∷ l) = ap (λ r. y ∷ r) (take_whole l)

      before : (q : List A) → find p (beginnings xs) ≡ Some q → filter p (take (length xs - length q) (beginnings xs)) ≡ []
      before q e =
          let s = skipped p (beginnings xs) in
          ap (filter p) (sym (skipped_found p xs q e) ∙ sym (take_whole s)) ∙ skipped_fail p (length s) (beginnings xs)

  passing_outside : (q : List A) → find p (beginnings xs) ≡ Some q → length q < outer → passing p outer xs ≡ []
  passing_outside q e h =
      let n = length xs + 1 - outer in
      let m = length xs - length q in
      let fewer : n ≤ m = omega arith in
      ap (filter p) (sym (take-take n m (beginnings xs) fewer) ∙ ap (take n) (sym (skipped_found p xs q e))) ∙ skipped_fail p n (beginnings xs)

  -- by what `nearest` says
  innermost_at : (r : Option ℕ) (depth : ℕ) → r ≡ option_map length (find p (beginnings xs)) → r ≡ Some depth → outer ≤ depth → depth ≤ length xs
      → IsInnermost p outer xs (Some (take depth xs))
  innermost_at r depth e f h w =
      let found : find p (beginnings xs) ≡ Some (take depth xs) = found_there p xs r depth e f in
      let l : length (take depth xs) ≡ depth = length-take-le depth xs w in
      let inside : outer ≤ length (take depth xs) = omega (arith, l) in
      ((longest_of_found p xs (take depth xs) found).passes, inside, omega (arith, l), passing_from (take depth xs) found inside)

  pub innermost_is : (r : Option ℕ) (depth : ℕ) (q : List A) → r ≡ option_map length (find p (beginnings xs)) → r ≡ Some depth → outer ≤ depth → q ≡ take depth xs
      → IsInnermost p outer xs (Some q)
  innermost_is r depth q e f h is = subst (λ (t : List A). IsInnermost p outer xs (Some t)) (sym is) (innermost_at r depth e f h (found_within p xs r depth e f))

  pub none_inside : (r : Option ℕ) (depth : ℕ) → r ≡ option_map length (find p (beginnings xs)) → r ≡ Some depth → depth < outer → IsInnermost p outer xs None
  none_inside r depth e f h =
      let w : depth ≤ length xs = found_within p xs r depth e f in
      let l : length (take depth xs) ≡ depth = length-take-le depth xs w in
      passing_outside (take depth xs) (found_there p xs r depth e f) (omega (arith, l))

  pub none_at_all : (r : Option ℕ) → r ≡ option_map length (find p (beginnings xs)) → r ≡ None → IsInnermost p outer xs None
  none_at_all r e f = filter_none p (length xs + 1 - outer) (beginnings xs) (not_found (find p (beginnings xs)) length r e f)

-- the first of those that pass, and the others
pub passing_root : {A : Type 0} (p : List A → Bool) (outer : ℕ) → outer ≤ 0 → IsTrue (p []) → passing p outer [] ≡ [] ∷ []
passing_root p outer h t = let n : 0 + 1 - outer ≡ 1 = omega arith in ap (λ i. filter p (take i (beginnings []))) n ∙ ap (λ b. cond b ([] ∷ []) []) t

pub passing_first : {A : Type 0} (p : List A → Bool) (outer : ℕ) (xs : List A) (y : A) → outer ≤ length (xs ++ y ∷ []) → IsTrue (p (xs ++ y ∷ []))
    → passing p outer (xs ++ y ∷ []) ≡ (xs ++ y ∷ []) ∷ passing p outer xs
passing_first p outer xs y h t =
    let n : length (xs ++ y ∷ []) + 1 - outer ≡ suc (length xs + 1 - outer) = omega (arith, length-append xs (y ∷ [])) in
    let rest = filter p (take (length xs + 1 - outer) (beginnings xs)) in
    ap (λ i. filter p (take i (beginnings (xs ++ y ∷ [])))) n ∙ ap (λ l. filter p (take (suc (length xs + 1 - outer)) l)) (beginnings_push xs y)
    ∙ ap (λ b. cond b ((xs ++ y ∷ []) ∷ rest) rest) t

-- ---- as the code finds them

-- an element that was taken off the end, if one was
pub taken_last : {A : Type 0} (o : Option A) (none : Bool) (xs shorter : List A) → is_some o ≡ not none → none ≡ false → o ≡ last_or None xs
    → shorter ≡ parent_of xs → (y : A) × (xs ≡ shorter ++ y ∷ [])
taken_last None none xs shorter n f l e = absurd (true≢false (sym (n ∙ ap not f)))
taken_last (Some y) none xs shorter n f l e = (y, parent_of_last xs y (sym l) ∙ ap (λ r. r ++ y ∷ []) (sym e))

pub nothing_taken : {A : Type 0} (o : Option A) (none : Bool) (xs : List A) → is_some o ≡ not none → none ≡ true → o ≡ last_or None xs → xs ≡ []
nothing_taken None none xs n t l = no_last xs (sym l)
nothing_taken (Some y) none xs n t l = absurd (true≢false (n ∙ ap not t))

module _ (defined : List Segment → Bool) (g : Segment) (outer : ℕ) where
  abbrev pub Here : List Segment → Bool
  Here q = defined (q ++ g ∷ [])

  abbrev below_each : List (List Segment) → List (List Segment)
  below_each = map (λ q. q ++ g ∷ [])

  abbrev pub among_all : List Segment → List (List Segment)
  among_all scope = filter defined (below_each (take (length scope + 1 - outer) (beginnings scope)))

  pub all_are : (scope : List Segment) → below_each (passing Here outer scope) ≡ among_all scope
  all_are scope = sym (filter_mapped defined (λ q. q ++ g ∷ []) (take (length scope + 1 - outer) (beginnings scope)))

  pub none_are : (scope : List Segment) (o : Option (List Segment)) → IsInnermost Here outer scope o → o ≡ None → [] ≡ among_all scope
  none_are scope None h e = sym (ap below_each h) ∙ all_are scope
  none_are scope (Some q) h e = cc

  pub first_is : (scope : List Segment) (o : Option (List Segment)) (q : List Segment) → IsInnermost Here outer scope o → o ≡ Some q → IsInnermost Here outer scope (Some q)
  first_is scope o q h e = subst (IsInnermost Here outer scope) e h

  -- one path more was put
  module _ (scope inner path : List Segment) (items more : List (List Segment))
      (left : items ++ below_each (passing Here outer inner) ≡ below_each (passing Here outer scope)) (here : IsTrue (Here inner))
      (inside : outer ≤ length inner)
      (is : path ≡ inner ++ g ∷ []) (put : more ≡ items ++ path ∷ []) where
    pub put_last : inner ≡ [] → more ≡ among_all scope
    put_last e =
        let l : length inner ≡ 0 = ap length e in
        let one : passing Here outer inner ≡ [] ∷ [] = ap (passing Here outer) e ∙ passing_root Here outer (omega arith) (subst (λ q. IsTrue (Here q)) e here) in
        put ∙ ap (λ p. items ++ p ∷ []) (is ∙ ap (λ q. q ++ g ∷ []) e) ∙ ap (λ l. items ++ below_each l) (sym one) ∙ left ∙ all_are scope

    pub put_more : (shorter : List Segment) (y : Segment) → inner ≡ shorter ++ y ∷ [] → more ++ below_each (passing Here outer shorter) ≡ below_each (passing Here outer scope)
    put_more shorter y e =
        let size : outer ≤ length (shorter ++ y ∷ []) = omega (arith, ap length e) in
        let first : passing Here outer inner ≡ inner ∷ passing Here outer shorter =
        ap (passing Here outer) e ∙ passing_first Here outer shorter y size (subst (λ q. IsTrue (Here q)) e here) ∙ ap (λ q. q ∷ passing Here outer shorter) (sym e) in
        ap (λ l. l ++ below_each (passing Here outer shorter)) put ∙ append_assoc items (path ∷ []) (below_each (passing Here outer shorter))
        ∙ ap (λ p. items ++ p ∷ below_each (passing Here outer shorter)) is ∙ ap (λ l. items ++ below_each l) (sym first) ∙ left

    pub put_end : (shorter : List Segment) (y : Segment) → inner ≡ shorter ++ y ∷ [] → (o : Option (List Segment)) → IsInnermost Here outer shorter o → o ≡ None
        → more ≡ among_all scope
    put_end shorter y e None h n = sym (append-nil more) ∙ ap (λ l. more ++ below_each l) (sym h) ∙ put_more shorter y e ∙ all_are scope
    put_end shorter y e (Some q) h n = cc

    pub put_on : (shorter : List Segment) (y : Segment) → inner ≡ shorter ++ y ∷ [] → (q : List Segment) → IsInnermost Here outer shorter (Some q)
        → more ++ below_each (passing Here outer q) ≡ below_each (passing Here outer scope)
    put_on shorter y e q h = ap (λ l. more ++ below_each l) (sym h.3) ∙ put_more shorter y e

-- the paths below, as a search would skip them
pub missed_among : {R E : Type 0} (r : Result R E) (items : R → List (List Segment)) (p wanted : List Segment → Bool) (g : Segment) (xs : List Segment) (n : ℕ)
    → skipped (λ q. p (q ++ g ∷ [])) (beginnings xs) ≡ take n (beginnings xs)
    → IfOk r (λ v. items v ≡ filter wanted (map (λ q. q ++ g ∷ []) (take n (beginnings xs))))
    → IfOk r (λ v. items v ≡ filter wanted (skipped p (map (λ q. q ++ g ∷ []) (beginnings xs))))
missed_among (Ok v) items p wanted g xs n e m = m ∙ ap (filter wanted) (ap (map (λ q. q ++ g ∷ [])) (sym e) ∙ sym (skipped_map p (λ q. q ++ g ∷ []) (beginnings xs)))
missed_among (Err f) items p wanted g xs n e m = tt

-- where none of a search's tries is asked for, none of those that it skips is
pub none_skipped : {A B : Type 0} (wanted test : B → Bool) (f : A → B) (l : List A) → is_some (find (λ x. wanted (f x)) l) ≡ false → filter wanted (skipped test (map f l)) ≡ []
none_skipped wanted test f [] e = refl
none_skipped {A} {B} wanted test f (x ∷ l) e = by (test (f x)) (wanted (f x)) refl e (none_skipped wanted test f l)
  where
    rest : List B
    rest = skipped test (map f l)

    by : (b c : Bool) → wanted (f x) ≡ c → is_some (cond c (Some x) (find (λ y. wanted (f y)) l)) ≡ false
        → (is_some (find (λ y. wanted (f y)) l) ≡ false → filter wanted rest ≡ [])
        → filter wanted (cond b [] (f x ∷ rest)) ≡ []
    by true c w e ih = refl
    by false true w e ih = absurd (true≢false e)
    by false false w e ih = ap (λ k. cond k (f x ∷ filter wanted rest) (filter wanted rest)) w ∙ ih e

pub some_beginning : {A : Type 0} (xs : List A) → is_some (find (λ q. true) (beginnings xs)) ≡ true
some_beginning [] = refl
some_beginning (x ∷ xs) = first (map (λ q. x ∷ q) (beginnings xs))
  where
    first : {B : Type 0} (l : List (List B)) → is_some (find (λ q. true) (l ++ [] ∷ [])) ≡ true
    first [] = refl
    first (y ∷ l) = refl
