-- The names of the files of tables in a folder.
use Rattle.std.proofs.Common.{◌≡◌, ◌+◌, ◌<◌, ◌∙◌, ℕ, List, [], ◌∷◌, ◌++◌, map, take, get_or, length, filter_map, option_map, Option, Some, None, ap, sym, subst, append-nil, arith, IsPermutation, IsSorted}
use Rattle.std.specs.Borrow.{Bor}
use Rattle.std.specs.List.{cons_option}
use Rattle.std.specs.declared.cmp.Ordering.{Ordering as Order}
use Rattle.std.proofs.lemmas.List.{get_or-map, length-map, map-append, take_more}
use Rattle.std.proofs.lemmas.List.Elements.{filter_map-append}
use Rattle.std.proofs.lemmas.List.Sorted.{IsPermutation-map}
use Rattle.std.specs.Str.{str_to_ascii_lowercase}
use Rattle.acpins_survey_run.specs.Folders.{AreSsdtsAmong, dsdt_extension, numbered_cmp, numbered_ssdts, ssdt_number}

-- a number, and a name that is lent
abbrev pub lent_pair : ℕ × Bor (List ℕ) → ℕ × List ℕ
lent_pair x = (x.0, x.1.now)

-- two texts that are lent
abbrev pub lent_both : Bor (List ℕ) × Bor (List ℕ) → List ℕ × List ℕ
lent_both x = (x.0.now, x.1.now)

-- a name, behind the number of an SSDT's file or before the extension of a DSDT's
abbrev pub numbered_name : List ℕ → List ℕ → Option (ℕ × List ℕ)
numbered_name extension name = option_map (λ number. (number, name)) (ssdt_number extension (str_to_ascii_lowercase name))

abbrev pub extended_name : List ℕ → Option (List ℕ × List ℕ)
extended_name name = option_map (λ extension. (name, extension)) (dsdt_extension (str_to_ascii_lowercase name))

-- what is found in names, one name after another
module _ {A X Y : Type 0} (f : List ℕ → Option Y) (shown : X → Y) (text : A → List ℕ) (names : List A) (i : ℕ) (d : A) (below : i < length names) where
  name_more : filter_map f (map text (take (i + 1) names)) ≡ filter_map f (map text (take i names)) ++ filter_map f (text (get_or names i d) ∷ [])
  name_more =
      let name = get_or names i d in
      ap (λ l. filter_map f (map text l)) (take_more names i d below)
      ∙ ap (filter_map f) (map-append text (take i names) (name ∷ []))
      ∙ filter_map-append f (map text (take i names)) (text name ∷ [])

  -- one name more, in which something is found
  pub found_more : (before after : List X) (x : X) → map shown before ≡ filter_map f (map text (take i names)) → after ≡ before ++ x ∷ []
      → Some (shown x) ≡ f (text (get_or names i d)) → map shown after ≡ filter_map f (map text (take (i + 1) names))
  found_more before after x h more is =
      let one : shown x ∷ [] ≡ filter_map f (text (get_or names i d) ∷ []) = ap (λ (o : Option Y). cons_option o []) is in
      ap (map shown) more
      ∙ map-append shown before (x ∷ [])
      ∙ ap (λ l. l ++ shown x ∷ []) h
      ∙ ap (λ l. filter_map f (map text (take i names)) ++ l) one
      ∙ sym name_more

  -- .. in which nothing is
  pub none_more : (before : List X) → map shown before ≡ filter_map f (map text (take i names)) → None ≡ f (text (get_or names i d))
      → map shown before ≡ filter_map f (map text (take (i + 1) names))
  none_more before h is =
      let none : [] ≡ filter_map f (text (get_or names i d) ∷ []) = ap (λ (o : Option Y). cons_option o []) is in
      h ∙ sym (append-nil (filter_map f (map text (take i names))))
      ∙ ap (λ l. filter_map f (map text (take i names)) ++ l) none
      ∙ sym name_more

-- ---- sorted names

sorted_mapped : {X Y : Type 0} (f : X → Y) (cmp : Y → Y → Order) (xs : List X) → IsSorted (λ x y. cmp (f x) (f y)) xs → IsSorted cmp (map f xs)
sorted_mapped f cmp [] h = λ k d low high. absurd (omega (arith, high))
sorted_mapped f cmp (x ∷ xs) h = λ k d low high.
    let upper : k + 1 < length (x ∷ xs) = omega (arith, high, length-map (x ∷ xs) f) in
    let lower : k < length (x ∷ xs) = omega (arith, upper) in
    rw (get_or-map f (x ∷ xs) (k + 1) x d upper, get_or-map f (x ∷ xs) k x d lower) (h k x low upper)

abbrev pub name_of : ℕ × List ℕ → List ℕ
name_of x = x.1

-- one name more of those that are given
pub given_more : (pairs : List (ℕ × Bor (List ℕ))) (i : ℕ) (d : ℕ × Bor (List ℕ)) (before after : List (Bor (List ℕ))) → i < length pairs
    → map (λ (s : Bor (List ℕ)). s.now) before ≡ map name_of (map lent_pair (take i pairs)) → after ≡ before ++ (get_or pairs i d).1 ∷ []
    → map (λ (s : Bor (List ℕ)). s.now) after ≡ map name_of (map lent_pair (take (i + 1) pairs))
given_more pairs i d before after below h more =
    let now : Bor (List ℕ) → List ℕ = λ s. s.now in
    let pair = get_or pairs i d in
    ap (map now) more
    ∙ map-append now before (pair.1 ∷ [])
    ∙ ap (λ l. l ++ pair.1.now ∷ []) h
    ∙ sym (ap (map name_of) (map-append lent_pair (take i pairs) (pair ∷ [])) ∙ map-append name_of (map lent_pair (take i pairs)) (lent_pair pair ∷ []))
    ∙ sym (ap (λ l. map name_of (map lent_pair l)) (take_more pairs i d below))

-- all names, in order
pub all_among : (extension : List ℕ) (names : List (List ℕ)) (order new : List (ℕ × Bor (List ℕ))) (ssdts : List (List ℕ)) → map lent_pair order ≡ numbered_ssdts extension names → IsPermutation order new
    → IsSorted (λ x y. numbered_cmp (lent_pair x) (lent_pair y)) new → ssdts ≡ map name_of (map lent_pair new) → AreSsdtsAmong extension names ssdts
all_among extension names order new ssdts all moved sorted are = record {
  numbered = map lent_pair new;
  each = subst (λ (ps : List (ℕ × List ℕ)). IsPermutation ps (map lent_pair new)) all (IsPermutation-map lent_pair order new moved);
  ascending = sorted_mapped lent_pair numbered_cmp new sorted;
  are = are;
}
