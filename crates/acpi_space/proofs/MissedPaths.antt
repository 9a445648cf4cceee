-- The beginnings of a scope that are longer than the one found.
use Rattle.std.proofs.Common.{◌≡◌, ℕ, zero, suc, ◌+◌, ◌-◌, ◌≤◌, Bool, true, false, cond, List, [], ◌∷◌, ◌++◌, map, find, length, take, Option, Some, None, refl, sym, ap, ◌∙◌, arith}
use Rattle.std.specs.Option.{option_map, option_or}
use Rattle.std.proofs.lemmas.List.{take-append-le, append-nil, map-append, take-map, length-map}
use Rattle.acpi_space.specs.Search.{beginnings, skipped}
use Rattle.acpi_space.proofs.Beginnings.{found_cons, found_within, found_there, find_map, longest-take, not_found}

pub skipped_map : {A B : Type 0} (p : B → Bool) (f : A → B) (l : List A) → skipped p (map f l) ≡ map f (skipped (λ x. p (f x)) l)
skipped_map p f [] = refl
skipped_map p f (x ∷ l) =
    elim (p (f x)) as (λ b. cond b [] (f x ∷ skipped p (map f l)) ≡ map f (cond b [] (x ∷ skipped (λ y. p (f y)) l))) [
      | true ↦ refl
      | false ↦ ap (λ r. f x ∷ r) (skipped_map p f l)
    ]

-- where the first list has one that passes
skipped_in : {A : Type 0} (p : A → Bool) (xs ys : List A) (x : A) → find p xs ≡ Some x → skipped p (xs ++ ys) ≡ skipped p xs
skipped_in p [] ys x e = cc
skipped_in {A} p (y ∷ xs) ys x e = by (p y) e (skipped_in p xs ys x)
  where
    by : (b : Bool) → cond b (Some y) (find p xs) ≡ Some x → (find p xs ≡ Some x → skipped p (xs ++ ys) ≡ skipped p xs)
        → cond b [] (y ∷ skipped p (xs ++ ys)) ≡ cond b [] (y ∷ skipped p xs)
    by true e ih = refl
    by false e ih = ap (λ r. y ∷ r) (ih e)

-- where it has none
skipped_past : {A : Type 0} (p : A → Bool) (xs ys : List A) → find p xs ≡ None → skipped p (xs ++ ys) ≡ xs ++ skipped p ys
skipped_past p [] ys e = refl
skipped_past {A} p (y ∷ xs) ys e = by (p y) e (skipped_past p xs ys)
  where
    by : (b : Bool) → cond b (Some y) (find p xs) ≡ None → (find p xs ≡ None → skipped p (xs ++ ys) ≡ xs ++ skipped p ys)
        → cond b [] (y ∷ skipped p (xs ++ ys)) ≡ y ∷ xs ++ skipped p ys
    by true e ih = cc
    by false e ih = ap (λ r. y ∷ r) (ih e)

pub length-beginnings : {A : Type 0} (xs : List A) → length (beginnings xs) ≡ length xs + 1
length-beginnings [] = refl
length-beginnings (x ∷ xs) = length-append (map (λ q. x ∷ q) (beginnings xs)) ([] ∷ [])
    ∙ ap (λ n. n + 1) (length-map (beginnings xs) (λ q. x ∷ q) ∙ length-beginnings xs)
    ∙ (let e : (length xs + 1) + 1 ≡ suc (length xs) + 1 = omega arith in e)
  where
    length-append : {B : Type 0} (us vs : List B) → length (us ++ vs) ≡ length us + length vs
    length-append [] vs = omega arith
    length-append (u ∷ us) vs = let e : length (us ++ vs) ≡ length us + length vs = length-append us vs in omega (arith, e)

-- as many of the longest beginnings of a longer list
take_under : {A : Type 0} (x : A) (xs : List A) (k : ℕ) → k ≤ length xs + 1 → take k (beginnings (x ∷ xs)) ≡ map (λ q. x ∷ q) (take k (beginnings xs))
take_under x xs k h =
    take-append-le k (map (λ q. x ∷ q) (beginnings xs)) ([] ∷ []) (let l : length (map (λ q. x ∷ q) (beginnings xs)) ≡ length xs
    + 1 = length-map (beginnings xs) (λ q. x ∷ q) ∙ length-beginnings xs in omega (arith, l))
    ∙ take-map (λ q. x ∷ q) k (beginnings xs)

take_all : {A : Type 0} (xs : List A) (n : ℕ) → n ≡ length xs → take n xs ≡ xs
take_all [] zero e = refl
take_all [] (suc n) e = refl
take_all (x ∷ xs) zero e = absurd (omega arith)
take_all (x ∷ xs) (suc n) e = ap (λ r. x ∷ r) (take_all xs n (omega arith))

-- the next shorter beginning
pub beginning_more : {A : Type 0} (xs : List A) (k : ℕ) → k ≤ length xs → take (length xs + 1 - k) (beginnings xs) ≡ take (length xs - k) (beginnings xs) ++ take k xs ∷ []
beginning_more [] zero h = refl
beginning_more [] (suc k) h = absurd (omega arith)
beginning_more (x ∷ xs) zero h =
    take_all (beginnings (x ∷ xs)) (suc (length xs) + 1 - 0) (let l : length (beginnings (x ∷ xs)) ≡ suc (length xs) + 1 = length-beginnings (x ∷ xs) in omega (arith, l))
    ∙ ap (λ l. l ++ [] ∷ []) (sym (take_under x xs (suc (length xs) - 0) (omega arith)
    ∙ ap (map (λ q. x ∷ q)) (take_all (beginnings xs) (suc (length xs) - 0) (let l : length (beginnings xs) ≡ length xs + 1 = length-beginnings xs in omega (arith, l)))))
beginning_more (x ∷ xs) (suc k) h =
    let m : suc (length xs) + 1 - suc k ≡ length xs + 1 - k = omega arith in
    let n : suc (length xs) - suc k ≡ length xs - k = omega arith in
    ap (λ i. take i (beginnings (x ∷ xs))) m ∙ take_under x xs (length xs + 1 - k) (omega arith)
    ∙ ap (map (λ q. x ∷ q)) (beginning_more xs k (omega arith))
    ∙ map-append (λ q. x ∷ q) (take (length xs - k) (beginnings xs)) (take k xs ∷ [])
    ∙ ap (λ l. l ++ (x ∷ take k xs) ∷ []) (sym (ap (λ i. take i (beginnings (x ∷ xs))) n ∙ take_under x xs (length xs - k) (omega arith)))

abbrev root_unless : {A : Type 0} → Bool → List (List A)
root_unless b = cond b [] ([] ∷ [])

-- what is skipped, where one is found and where none is
pub skipped_found : {A : Type 0} (p : List A → Bool) (xs q : List A) → find p (beginnings xs) ≡ Some q → skipped p (beginnings xs) ≡ take (length xs - length q) (beginnings xs)
skipped_found {A} p [] q e = by (p []) refl e
  where
    by : (b : Bool) → p [] ≡ b → cond b (Some []) None ≡ Some q → skipped p (beginnings []) ≡ take (0 - length q) (beginnings [])
    by true eb e = let z : 0 - length q ≡ 0 = omega arith in ap (root_unless {A = A}) eb ∙ ap (λ i. take i (beginnings [])) (sym z)
    by false eb e = cc
skipped_found {A} p (x ∷ xs) q e = by (find (λ q. p (x ∷ q)) (beginnings xs)) refl (p []) refl (sym (found_cons p x xs) ∙ e) (skipped_found (λ q. p (x ∷ q)) xs)
  where
    by : (o : Option (List A)) → find (λ q. p (x ∷ q)) (beginnings xs) ≡ o → (b : Bool) → p [] ≡ b → option_or (option_map (λ q. x ∷ q) o) (cond b (Some []) None) ≡ Some q
        → ((r : List A) → find (λ q. p (x ∷ q)) (beginnings xs) ≡ Some r → skipped (λ q. p (x ∷ q)) (beginnings xs) ≡ take (length xs - length r) (beginnings xs))
        → skipped p (beginnings (x ∷ xs)) ≡ take (suc (length xs) - length q) (beginnings (x ∷ xs))
    by (Some r) eo b eb n ih =
        let at : x ∷ r ≡ q = cc in
        let l : length q ≡ suc (length r) = ap length (sym at) in
        let w : length r ≤ length xs = (longest-take (λ q. p (x ∷ q)) xs r eo).0 in
        let k : suc (length xs) - length q ≡ length xs - length r = omega (arith, l) in
        skipped_in p (map (λ q. x ∷ q) (beginnings xs)) ([] ∷ []) (x ∷ r) (find_map p (λ q. x ∷ q) (beginnings xs) ∙ ap (option_map (λ q. x ∷ q)) eo)
        ∙ skipped_map p (λ q. x ∷ q) (beginnings xs) ∙ ap (map (λ q. x ∷ q)) (ih r eo)
        ∙ sym (ap (λ i. take i (beginnings (x ∷ xs))) k ∙ take_under x xs (length xs - length r) (omega arith))
    by None eo true eb n ih =
        let at : [] ≡ q = cc in
        let k : suc (length xs) - length q ≡ length xs + 1 = omega (arith, ap length (sym at)) in
        skipped_past p (map (λ q. x ∷ q) (beginnings xs)) ([] ∷ []) (find_map p (λ q. x ∷ q) (beginnings xs) ∙ ap (option_map (λ q. x ∷ q)) eo)
        ∙ ap (λ b. map (λ q. x ∷ q) (beginnings xs) ++ cond b [] ([] ∷ [])) eb ∙ append-nil (map (λ q. x ∷ q) (beginnings xs))
        ∙ sym (ap (λ i. take i (beginnings (x ∷ xs))) k ∙ take_under x xs (length xs + 1) (omega arith)
        ∙ ap (map (λ q. x ∷ q)) (take_all (beginnings xs) (length xs + 1) (sym (length-beginnings xs))))
    by None eo false eb n ih = cc

pub skipped_all : {A : Type 0} (p : A → Bool) (l : List A) → find p l ≡ None → skipped p l ≡ l
skipped_all p [] e = refl
skipped_all {A} p (x ∷ l) e = by (p x) e (skipped_all p l)
  where
    by : (b : Bool) → cond b (Some x) (find p l) ≡ None → (find p l ≡ None → skipped p l ≡ l) → cond b [] (x ∷ skipped p l) ≡ x ∷ l
    by true e ih = cc
    by false e ih = ap (λ r. x ∷ r) (ih e)

-- the least length that is missed, by what `nearest` says
pub missed_none : {A : Type 0} (p : List A → Bool) (xs : List A) (r : Option ℕ) → r ≡ option_map length (find p (beginnings xs)) → r ≡ None
    → skipped p (beginnings xs) ≡ take (length xs + 1 - 0) (beginnings xs)
missed_none p xs r e n =
    skipped_all p (beginnings xs) (not_found (find p (beginnings xs)) length r e n)
    ∙ sym (take_all (beginnings xs) (length xs + 1 - 0) (let l : length (beginnings xs) ≡ length xs + 1 = length-beginnings xs in omega (arith, l)))

length_take_le : {A : Type 0} (xs : List A) (n : ℕ) → n ≤ length xs → length (take n xs) ≡ n
length_take_le xs zero h = refl
length_take_le [] (suc n) h = absurd (omega arith)
length_take_le (x ∷ xs) (suc n) h = ap suc (length_take_le xs n (omega arith))

pub missed_some : {A : Type 0} (p : List A → Bool) (xs : List A) (r : Option ℕ) (d : ℕ) → r ≡ option_map length (find p (beginnings xs)) → r ≡ Some d
    → skipped p (beginnings xs) ≡ take (length xs + 1 - (d + 1)) (beginnings xs)
missed_some p xs r d e n =
    let w : d ≤ length xs = found_within p xs r d e n in
    let l : length (take d xs) ≡ d = length_take_le xs d w in
    let k : length xs - length (take d xs) ≡ length xs + 1 - (d + 1) = omega (arith, l) in
    skipped_found p xs (take d xs) (found_there p xs r d e n) ∙ ap (λ i. take i (beginnings xs)) k

-- one more depth of the walk
pub one_more_out : {A B : Type 0} (f : List A → B) (xs : List A) (items more : List B) (path : List A) (depth outer : ℕ)
    → items ≡ map f (take (length xs + 1 - depth) (beginnings xs)) → more ≡ items ++ f path ∷ [] → path ≡ take outer xs → depth ≡ outer + 1 → outer ≤ length xs
    → more ≡ map f (take (length xs + 1 - outer) (beginnings xs))
one_more_out f xs items more path depth outer e m p d w =
    let h : length xs + 1 - depth ≡ length xs - outer = omega arith in
    m ∙ ap (λ l. l ++ f path ∷ []) (e ∙ ap (λ i. map f (take i (beginnings xs))) h) ∙ ap (λ q. map f (take (length xs - outer) (beginnings xs)) ++ f q ∷ []) p
    ∙ sym (ap (map f) (beginning_more xs outer w) ∙ map-append f (take (length xs - outer) (beginnings xs)) (take outer xs ∷ []))

-- none at the start
pub none_out : {A B : Type 0} (f : List A → B) (xs : List A) (depth : ℕ) → depth ≡ length xs + 1 → [] ≡ map f (take (length xs + 1 - depth) (beginnings xs))
none_out f xs depth e = let z : length xs + 1 - depth ≡ 0 = omega arith in ap (λ i. map f (take i (beginnings xs))) (sym z)
