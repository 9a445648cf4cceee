-- The first of the beginnings of a list that passes a test.
use Rattle.std.proofs.Common.{◌≡◌, ℕ, ◌+◌, ◌<◌, ◌≤◌, Bool, true, false, cond, List, [], ◌∷◌, ◌++◌, map, find, length, take, Option, Some, None, refl, sym, ap, ◌∙◌, subst, arith, length-append}
use Rattle.std.specs.Option.{option_map, option_or}
use Rattle.std.proofs.Math.Seq.{take-append_seam}
use Rattle.std.proofs.lemmas.List.Folds.{find-append}
use Rattle.acpi_space.specs.Search.{beginnings}
use Rattle.acpi_space.specs.Laws.{IsLongest, NoneBegins}

pub find_map : {A B : Type 0} (p : B → Bool) (f : A → B) (l : List A) → find p (map f l) ≡ option_map f (find (λ x. p (f x)) l)
find_map p f [] = refl
find_map p f (x ∷ l) =
    elim (p (f x)) as (λ b. cond b (Some (f x)) (find p (map f l)) ≡ option_map f (cond b (Some x) (find (λ y. p (f y)) l))) [
      | true ↦ refl
      | false ↦ find_map p f l
    ]

-- from the front: what is found in the rest, or else the empty beginning
pub found_cons : {A : Type 0} (p : List A → Bool) (x : A) (xs : List A)
    → find p (beginnings (x ∷ xs)) ≡ option_or (option_map (λ q. x ∷ q) (find (λ q. p (x ∷ q)) (beginnings xs))) (cond (p []) (Some []) None)
found_cons p x xs = find-append p (map (λ q. x ∷ q) (beginnings xs)) ([] ∷ []) ∙ ap (λ o. option_or o (cond (p []) (Some []) None)) (find_map p (λ q. x ∷ q) (beginnings xs))

pub beginnings_push : {A : Type 0} (xs : List A) (y : A) → beginnings (xs ++ y ∷ []) ≡ (xs ++ y ∷ []) ∷ beginnings xs
beginnings_push [] y = refl
beginnings_push (x ∷ xs) y = ap (λ l. map (λ q. x ∷ q) l ++ [] ∷ []) (beginnings_push xs y)

pub beginnings_whole : {A : Type 0} (xs : List A) → (rest : List (List A)) × (beginnings xs ≡ xs ∷ rest)
beginnings_whole [] = ([], refl)
beginnings_whole (x ∷ xs) =
    let t : (rest : _) × (beginnings xs ≡ xs ∷ rest) = beginnings_whole xs in
    (map (λ q. x ∷ q) t.0 ++ [] ∷ [], ap (λ l. map (λ q. x ∷ q) l ++ [] ∷ []) t.1)

-- the whole list passes
pub found_whole : {A : Type 0} (p : List A → Bool) (xs : List A) → p xs ≡ true → find p (beginnings xs) ≡ Some xs
found_whole p xs e =
    let t : (rest : _) × (beginnings xs ≡ xs ∷ rest) = beginnings_whole xs in
    ap (find p) t.1 ∙ ap (λ b. cond b (Some xs) (find p t.0)) e

-- it does not, and its last element goes
pub found_shorter : {A : Type 0} (p : List A → Bool) (xs : List A) (y : A) → p (xs ++ y ∷ []) ≡ false → find p (beginnings (xs ++ y ∷ [])) ≡ find p (beginnings xs)
found_shorter p xs y e = ap (find p) (beginnings_push xs y) ∙ ap (λ b. cond b (Some (xs ++ y ∷ [])) (find p (beginnings xs))) e

pub found_nowhere : {A : Type 0} (p : List A → Bool) → p [] ≡ false → find p (beginnings []) ≡ None
found_nowhere p e = ap (λ b. cond b (Some []) None) e

-- ---- the law

-- what the search through the beginnings found, by cases
abbrev pub FoundAs : {A : Type 0} → (List A → Bool) → List A → Option (List A) → Type 0
FoundAs test xs None = NoneBegins test xs
FoundAs test xs (Some q) = IsLongest test xs q

abbrev or_empty : {A : Type 0} → Option (List A) → Bool → Option (List A)
or_empty o b = option_or o (cond b (Some []) None)

found_at : {A : Type 0} (test : List A → Bool) (x : A) (xs : List A) (o : Option (List A)) → FoundAs (λ q. test (x ∷ q)) xs o → (b : Bool)
    → test [] ≡ b → FoundAs test (x ∷ xs) (or_empty (option_map (λ q. x ∷ q) o) b)
found_at {A} test x xs (Some q) h b e = record {
  rest = h.rest;
  begins = ap (λ l. x ∷ l) h.begins;
  passes = h.passes;
  longest = longest;
}
  where
    longest : (p r : List A) → x ∷ xs ≡ p ++ r → length (x ∷ q) < length p → test p ≡ false
    longest [] r is lt = absurd (omega arith)
    longest (y ∷ p) r is lt = let head : x ≡ y = cc in let tail : xs ≡ p ++ r = cc in subst (λ z. test (z ∷ p) ≡ false) head (h.longest p r tail (omega arith))
found_at {A} test x xs None h true e = record {
  rest = x ∷ xs;
  begins = refl;
  passes = e;
  longest = longest;
}
  where
    longest : (p r : List A) → x ∷ xs ≡ p ++ r → 0 < length p → test p ≡ false
    longest [] r is lt = absurd (omega arith)
    longest (y ∷ p) r is lt = let head : x ≡ y = cc in let tail : xs ≡ p ++ r = cc in subst (λ z. test (z ∷ p) ≡ false) head (h p r tail)
found_at {A} test x xs None h false e = none
  where
    none : (p r : List A) → x ∷ xs ≡ p ++ r → test p ≡ false
    none [] r is = e
    none (y ∷ p) r is = let head : x ≡ y = cc in let tail : xs ≡ p ++ r = cc in subst (λ z. test (z ∷ p) ≡ false) head (h p r tail)

root_at : {A : Type 0} (test : List A → Bool) (b : Bool) → test [] ≡ b → FoundAs test [] (cond b (Some []) None)
root_at {A} test true e = record { rest = []; begins = refl; passes = e; longest = longest }
  where
    longest : (p r : List A) → [] ≡ p ++ r → 0 < length p → test p ≡ false
    longest [] r is lt = absurd (omega arith)
    longest (y ∷ p) r is lt = cc
root_at {A} test false e = none
  where
    none : (p r : List A) → [] ≡ p ++ r → test p ≡ false
    none [] r is = e
    none (y ∷ p) r is = cc

-- the first beginning that passes is the longest that does, and there is none only where no beginning does
pub find_longest : {A : Type 0} (test : List A → Bool) (xs : List A) → FoundAs test xs (find test (beginnings xs))
find_longest test [] = root_at test (test []) refl
find_longest test (x ∷ xs) = subst (FoundAs test (x ∷ xs)) (sym (found_cons test x xs))
    (found_at test x xs (find (λ q. test (x ∷ q)) (beginnings xs)) (find_longest (λ q. test (x ∷ q)) xs) (test []) refl)

pub longest_of_found : {A : Type 0} (p : List A → Bool) (xs q : List A) → find p (beginnings xs) ≡ Some q → IsLongest p xs q
longest_of_found p xs q e = subst (FoundAs p xs) e (find_longest p xs)

-- ---- found again by its length

pub longest-take : {A : Type 0} (p : List A → Bool) (xs q : List A) → find p (beginnings xs) ≡ Some q → (length q ≤ length xs) × (take (length q) xs ≡ q)
longest-take p xs q e =
    let is : IsLongest p xs q = longest_of_found p xs q e in
    let l : length xs ≡ length q + length is.rest = ap length is.begins ∙ length-append q is.rest in
    (omega arith, ap (take (length q)) is.begins ∙ take-append_seam q is.rest)

-- the scope that is found, by its length
found_depth : {A : Type 0} (p : List A → Bool) (xs : List A) (o : Option (List A)) (r : Option ℕ) (depth : ℕ)
    → find p (beginnings xs) ≡ o → r ≡ option_map length o → r ≡ Some depth → (q : List A) × (find p (beginnings xs) ≡ Some q) × (depth ≡ length q)
found_depth p xs None r depth l e f = cc
found_depth p xs (Some q) r depth l e f = let h : Some depth ≡ Some (length q) = sym f ∙ e in let k : depth ≡ length q = cc in (q, l, k)

pub found_within : {A : Type 0} (p : List A → Bool) (xs : List A) (r : Option ℕ) (depth : ℕ) → r ≡ option_map length (find p (beginnings xs)) → r ≡ Some depth → depth ≤ length xs
found_within p xs r depth e f =
    let t : (q : List _) × (find p (beginnings xs) ≡ Some q) × (depth ≡ length q) = found_depth p xs _ r depth refl e f in
    let w : length t.0 ≤ length xs = (longest-take p xs t.0 t.1).0 in
    omega (arith, w, t.2)

pub found_there : {A : Type 0} (p : List A → Bool) (xs : List A) (r : Option ℕ) (depth : ℕ) → r ≡ option_map length (find p (beginnings xs))
    → r ≡ Some depth → find p (beginnings xs) ≡ Some (take depth xs)
found_there p xs r depth e f =
    let t : (q : List _) × (find p (beginnings xs) ≡ Some q) × (depth ≡ length q) = found_depth p xs _ r depth refl e f in
    t.1 ∙ ap Some (sym (longest-take p xs t.0 t.1).1 ∙ ap (λ n. take n xs) (sym t.2))

pub not_found : {A : Type 0} (o : Option A) (f : A → ℕ) (r : Option ℕ) → r ≡ option_map f o → r ≡ None → o ≡ None
not_found None f r e n = refl
not_found (Some x) f r e n = cc
