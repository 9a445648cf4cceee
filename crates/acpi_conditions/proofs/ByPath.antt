-- The entries in the order of their paths.
use Rattle.std.proofs.Common.{◌≡◌, ◌∙◌, ◌+◌, ◌<◌, ℕ, suc, Bool, true, false, cond, not, ◌||◌, List, [], ◌∷◌, ◌++◌, length, map, is_some, Option, Some, None, option_map, slice_get, inl, inr, refl, sym, ap, subst, append-nil, arith}
use Rattle.std.specs.Option.{option_and_then}
use Rattle.std.specs.List.{AllByRecursion, filter, flat_map, list_any}
use Rattle.std.specs.List.Sorted.{IsPermutation, IsSorted, IsStrictlySortedBy}
use Rattle.std.specs.FinMap.{entries, find, get, get-entries, keys}
use Rattle.std.specs.Borrow.{Bor}
use Rattle.std.specs.Ordering.{is_eq}
use Rattle.std.specs.declared.cmp.Ordering.TheVariants.{Less}
use Rattle.std.proofs.lemmas.List.{append_assoc, get_or-map, length-map}
use Rattle.std.proofs.lemmas.List.Sorted.{IsPermutation-refl, IsPermutation-map, IsPermutation-filter_both, IsPermutation-trans, IsPermutation-append_right}
use Rattle.std.proofs.lemmas.Option.{slice_get-map}
use Rattle.std.proofs.lemmas.Grind.{flat_map-append}
use Rattle.std.proofs.lemmas.Simd.{map-map}
use Rattle.std.proofs.lemmas.Bool.{false_from_ne_true}
use Rattle.acpi_name.specs.Paths.{path_cmp}
use Rattle.acpi_space.specs.Laws.{Among}
use Rattle.acpi_space.specs.Lookups.{is_same_path}
use Rattle.acpi_space.proofs.Keys.{keys_ascend}
use Rattle.acpi_space.proofs.Filters.{filter_all}
use Rattle.acpi_space.proofs.Elements.{one_some}
use Rattle.acpi_conditions.specs.ByPath.{AreByPath, lent_pair, numbered_cmp, numbered_from}
use Rattle.acpi_conditions.specs.Entries.{Path, Entry}
use Rattle.acpi_conditions.specs.EntryForms.{entry_view}
use Rattle.acpi_conditions.specs.declared.entry.Entry.{Entry as EntryForm}
use Rattle.acpi_conditions.specs.declared.slots.Sight.{Sight}
use Rattle.acpi_conditions.specs.declared.slots.Slot.{Slot}
use Rattle.acpi_conditions.specs.declared.slots.Slots.{Slots}
use Rattle.acpi_conditions.specs.steps.Facts.{kept_in, paths_in, sights_beyond}
use Rattle.acpi_conditions.specs.steps.SlotPairs.{pairs_in, slot_pairs}
use Rattle.acpi_conditions.specs.steps.Slots.{Here, here_of, IsNumbered}
use Rattle.acpi_conditions.proofs.Basics.{never, path_itself, same_path}
use Rattle.acpi_conditions.proofs.Strict.{none_pass}

abbrev paths_of : List Entry → List Path
paths_of es = map (λ (e : Entry). e.path) es

abbrev at : Path → Path × ℕ → Bool
at p x = is_same_path x.0 p

abbrev apart : Path → Path × ℕ → Bool
apart p x = not (is_same_path x.0 p)

abbrev elsewhere : List Path → Path × ℕ → Bool
elsewhere ps x = not (list_any (λ p. is_same_path x.0 p) ps)

-- ---- the entries at one path

abbrev with_path : Path → List Sight → List (Path × ℕ)
with_path p xs = map (λ (x : Sight). (p, x.number)) xs

numbered_at : (p : Path) (n : ℕ) (es : List Entry) → with_path p (sights_beyond p n es) ≡ filter (at p) (numbered_from n (paths_of es))
numbered_at p n [] = refl
numbered_at p n (e ∷ es) = by (is_same_path e.path p) refl (numbered_at p (suc n) es)
  where
    rest : List Sight
    rest = sights_beyond p (suc n) es

    behind : List (Path × ℕ)
    behind = filter (at p) (numbered_from (suc n) (paths_of es))

    by : (b : Bool) → is_same_path e.path p ≡ b → with_path p rest ≡ behind
        → with_path p (cond b (record { number = n; is_scope = e.term.is_scope } ∷ rest) rest) ≡ cond b ((e.path, n) ∷ behind) behind
    by true same more = ap (λ (q : Path). (q, n) ∷ with_path p rest) (sym (same_path e.path p same)) ∙ ap (λ xs. (e.path, n) ∷ xs) more
    by false same more = more

-- ---- pairs by their paths

both_pass : {X : Type 0} (p q r : X → Bool) → ((x : X) → cond (q x) (p x) false ≡ r x) → (xs : List X) → filter p (filter q xs) ≡ filter r xs
both_pass p q r same [] = refl
both_pass p q r same (x ∷ xs) = by (q x) (same x) (both_pass p q r same xs)
  where
    by : (b : Bool) → cond b (p x) false ≡ r x → filter p (filter q xs) ≡ filter r xs → filter p (cond b (x ∷ filter q xs) (filter q xs)) ≡ cond (r x) (x ∷ filter r xs) (filter r xs)
    by true s more = ap (λ ys. cond (p x) (x ∷ ys) ys) more ∙ ap (λ b. cond b (x ∷ filter r xs) (filter r xs)) s
    by false s more = more ∙ ap (λ b. cond b (x ∷ filter r xs) (filter r xs)) s

not_below_itself : (p q : Path) → path_cmp p q ≡ Less → p ≡ q → ⊥
not_below_itself p q less e = never (is_same_path p q) (path_itself p q e) (ap is_eq less)

other_path : (k j : Path) → path_cmp k j ≡ Less → (x : Path × ℕ) → cond (apart k x) (at j x) false ≡ at j x
other_path k j less x = by (is_same_path x.0 k) (is_same_path x.0 j) refl refl
  where
    by : (a b : Bool) → is_same_path x.0 k ≡ a → is_same_path x.0 j ≡ b → cond (not a) b false ≡ b
    by true true s t = absurd (not_below_itself k j less (sym (same_path x.0 k s) ∙ same_path x.0 j t))
    by true false s t = refl
    by false b s t = refl

other_paths : (k : Path) (ks : List Path) (xs : List (Path × ℕ)) → AllByRecursion (λ j. path_cmp k j ≡ Less) ks
    → flat_map (λ j. filter (at j) (filter (apart k) xs)) ks ≡ flat_map (λ j. filter (at j) xs) ks
other_paths k [] xs h = refl
other_paths k (j ∷ ks) xs h =
    ap (λ ys. ys ++ flat_map (λ j. filter (at j) (filter (apart k) xs)) ks) (both_pass (at j) (apart k) (at j) (other_path k j h.0) xs)
    ∙ ap (λ ys. filter (at j) xs ++ ys) (other_paths k ks xs h.1)

apart_and_elsewhere : (k : Path) (ks : List Path) (x : Path × ℕ) → cond (apart k x) (elsewhere ks x) false ≡ elsewhere (k ∷ ks) x
apart_and_elsewhere k ks x = by (is_same_path x.0 k)
  where
    by : (b : Bool) → cond (not b) (elsewhere ks x) false ≡ not (b || list_any (λ p. is_same_path x.0 p) ks)
    by true = refl
    by false = refl

-- the pairs of each path, and those of no path that is told
parted : (ks : List Path) (xs : List (Path × ℕ)) → IsStrictlySortedBy path_cmp ks → IsPermutation xs (flat_map (λ k. filter (at k) xs) ks ++ filter (elsewhere ks) xs)
unfolding IsStrictlySortedBy
parted [] xs s = subst (λ ys. IsPermutation xs ys) (sym (filter_all xs)) (IsPermutation-refl xs)
parted (k ∷ ks) xs s =
    let ys : List (Path × ℕ) = filter (apart k) xs in
    let later : List (Path × ℕ) = flat_map (λ j. filter (at j) xs) ks in
    let left : List (Path × ℕ) = filter (elsewhere (k ∷ ks)) xs in
    let same : flat_map (λ j. filter (at j) ys) ks ++ filter (elsewhere ks) ys ≡ later ++ left =
    ap (λ zs. zs ++ filter (elsewhere ks) ys) (other_paths k ks xs s.0)
    ∙ ap (λ zs. later ++ zs) (both_pass (elsewhere ks) (apart k) (elsewhere (k ∷ ks)) (apart_and_elsewhere k ks) xs) in
    let inner : IsPermutation ys (later ++ left) = subst (λ zs. IsPermutation ys zs) same (parted ks ys s.1) in
    subst (λ zs. IsPermutation xs zs) (sym (append_assoc (filter (at k) xs) later left))
    (IsPermutation-trans xs (filter (at k) xs ++ ys) (filter (at k) xs ++ (later ++ left)) (IsPermutation-filter_both (at k) (apart k) (λ x. refl) xs)
    (IsPermutation-append_right (filter (at k) xs) ys (later ++ left) inner))

-- ---- the pairs of a map

abbrev firsts : List (Path × ℕ) → List Path
firsts xs = map (λ (x : Path × ℕ). x.0) xs

among_above : (k : Path) (ps : List Path) (p : Path) → AllByRecursion (λ q. path_cmp k q ≡ Less) ps → Among ps p → path_cmp k p ≡ Less
among_above k [] p h m = absurd m
among_above k (q ∷ ps) p h (inl e) = subst (λ x. path_cmp k x ≡ Less) e h.0
among_above k (q ∷ ps) p h (inr m) = among_above k ps p h.1 m

found_each : (f : Path → Option ℕ) (xs : List (Path × ℕ)) → IsStrictlySortedBy path_cmp (firsts xs) → ((p : Path) → Among (firsts xs) p → f p ≡ find path_cmp p xs)
    → AllByRecursion (λ (x : Path × ℕ). f x.0 ≡ Some x.1) xs
unfolding IsStrictlySortedBy
found_each f [] s h = tt
found_each f (x ∷ xs) s h =
    let other = λ (p : Path) (m : Among (firsts xs) p). false_from_ne_true (is_same_path p x.0) (λ same. not_below_itself x.0 p (among_above x.0 (firsts xs) p s.0 m) (sym (same_path p x.0 same))) in (
      h x.0 (inl refl) ∙ ap (λ b. cond b (Some x.1) (find path_cmp x.0 xs)) (path_itself x.0 x.0 refl),
      found_each f xs s.1 (λ p m. h p (inr m) ∙ ap (λ b. cond b (Some x.1) (find path_cmp p xs)) (other p m)),
    )

is_key : (p : Path) (xs : List (Path × ℕ)) → list_any (λ k. is_same_path p k) (firsts xs) ≡ is_some (find path_cmp p xs)
is_key p [] = refl
is_key p (x ∷ xs) = ap (λ b. is_same_path p x.0 || b) (is_key p xs) ∙ by (is_same_path p x.0)
  where
    by : (b : Bool) → (b || is_some (find path_cmp p xs)) ≡ is_some (cond b (Some x.1) (find path_cmp p xs))
    by true = refl
    by false = refl

-- ---- what has entries

nothing_behind : (p : Path) (n : ℕ) (e : Entry) (es : List Entry) → sights_beyond p n (e ∷ es) ≡ [] → sights_beyond p (suc n) es ≡ []
nothing_behind p n e es = by (is_same_path e.path p)
  where
    by : (b : Bool) → cond b (record { number = n; is_scope = e.term.is_scope } ∷ sights_beyond p (suc n) es) (sights_beyond p (suc n) es) ≡ [] → sights_beyond p (suc n) es ≡ []
    by true h = absurd (cc h)
    by false h = h

seen_itself : (n : ℕ) (e : Entry) (es : List Entry) → sights_beyond e.path n (e ∷ es) ≡ [] → ⊥
seen_itself n e es = by (is_same_path e.path e.path) (path_itself e.path e.path refl)
  where
    by : (b : Bool) → b ≡ true → cond b (record { number = n; is_scope = e.term.is_scope } ∷ sights_beyond e.path (suc n) es) (sights_beyond e.path (suc n) es) ≡ [] → ⊥
    by true s h = absurd (cc h)
    by false s h = absurd (cc s)

all_seen : (P : Path → Type 0) (n : ℕ) (es : List Entry) → ((p : Path) → (sights_beyond p n es ≡ [] → ⊥) → P p) → AllByRecursion (λ (x : Path × ℕ). P x.0) (numbered_from n (paths_of es))
all_seen P n [] h = tt
all_seen P n (e ∷ es) h = (h e.path (seen_itself n e es), all_seen P (suc n) es (λ p some. h p (λ none. some (nothing_behind p n e es none))))

-- ---- slots

-- one slot more
pub shown_more : (slots : List Slot) (pairs : List (Path × ℕ)) (p : Path) (n : ℕ) (first mid new : List (Bor Path × ℕ))
    → map lent_pair mid ≡ map lent_pair first ++ flat_map (λ (x : Path × ℕ). slot_pairs slots x.1) pairs → map lent_pair new ≡ map lent_pair mid ++ slot_pairs slots n
    → map lent_pair new ≡ map lent_pair first ++ flat_map (λ (x : Path × ℕ). slot_pairs slots x.1) (pairs ++ (p, n) ∷ [])
shown_more slots pairs p n first mid new before put =
    let f = λ (x : Path × ℕ). slot_pairs slots x.1 in
    put ∙ ap (λ xs. xs ++ slot_pairs slots n) before ∙ append_assoc (map lent_pair first) (flat_map f pairs) (slot_pairs slots n)
    ∙ ap (λ xs. map lent_pair first ++ (flat_map f pairs ++ xs)) (sym (append-nil (slot_pairs slots n)))
    ∙ ap (λ xs. map lent_pair first ++ xs) (sym (flat_map-append f pairs ((p, n) ∷ [])))

pairs_said : (p : Path) (o : Option Slot) → option_map (λ (s : Slot). s.path) o ≡ Some p → pairs_in o ≡ with_path p (here_of o).sights
pairs_said p None e = absurd (cc e)
pairs_said p (Some s) e = ap (λ (q : Path). with_path q s.sights.items) (one_some s.path p e)

module _ (slots : Slots) (es : List Entry) (numbered : IsNumbered slots.numbers (paths_in slots))
    (sights : (p : Path) → (kept_in slots p).sights ≡ sights_beyond p 0 es) where
  slot_is : (p : Path) (n : ℕ) → get slots.numbers p ≡ Some n → slot_pairs slots.slots.items n ≡ filter (at p) (numbered_from 0 (paths_of es))
  slot_is p n e =
      let path : option_map (λ (s : Slot). s.path) (slice_get slots.slots.items n) ≡ Some p = sym (slice_get-map (λ (s : Slot). s.path) slots.slots.items n) ∙ numbered.slot p n e in
      let kept : kept_in slots p ≡ here_of (slice_get slots.slots.items n) = ap (λ (o : Option ℕ). here_of (option_and_then (λ k. slice_get slots.slots.items k) o)) e in
      pairs_said p (slice_get slots.slots.items n) path
      ∙ ap (λ (h : Here). with_path p h.sights) (sym kept)
      ∙ ap (λ xs. with_path p xs) (sights p)
      ∙ numbered_at p 0 es

  by_keys : (xs : List (Path × ℕ)) → AllByRecursion (λ (x : Path × ℕ). get slots.numbers x.0 ≡ Some x.1) xs
      → flat_map (λ (x : Path × ℕ). slot_pairs slots.slots.items x.1) xs ≡ flat_map (λ k. filter (at k) (numbered_from 0 (paths_of es))) (firsts xs)
  by_keys [] h = refl
  by_keys (x ∷ xs) h =
      ap (λ ys. ys ++ flat_map (λ (x : Path × ℕ). slot_pairs slots.slots.items x.1) xs) (slot_is x.0 x.1 h.0)
      ∙ ap (λ ys. filter (at x.0) (numbered_from 0 (paths_of es)) ++ ys) (by_keys xs h.1)

  has_number : (p : Path) → (sights_beyond p 0 es ≡ [] → ⊥) → is_some (get slots.numbers p) ≡ true
  has_number p some = by (get slots.numbers p) refl
    where
      by : (o : Option ℕ) → get slots.numbers p ≡ o → is_some o ≡ true
      by None e = absurd (some (sym (sights p) ∙ ap (λ (o : Option ℕ). (here_of (option_and_then (λ k. slice_get slots.slots.items k) o)).sights) e))
      by (Some n) e = refl

  among_keys : (p : Path) → (sights_beyond p 0 es ≡ [] → ⊥) → not (list_any (λ k. is_same_path p k) (keys slots.numbers)) ≡ false
  among_keys p some = ap not (is_key p (entries slots.numbers) ∙ ap is_some (sym (get-entries slots.numbers p)) ∙ has_number p some)

  pub all_numbered : (order : List (Path × ℕ)) → order ≡ flat_map (λ (x : Path × ℕ). slot_pairs slots.slots.items x.1) (entries slots.numbers)
      → IsPermutation (numbered_from 0 (paths_of es)) order
  all_numbered order is =
      let each = found_each (get slots.numbers) (entries slots.numbers) (keys_ascend slots.numbers) (λ p m. get-entries slots.numbers p) in
      let none : filter (elsewhere (keys slots.numbers)) (numbered_from 0 (paths_of es)) ≡ [] =
      none_pass (elsewhere (keys slots.numbers)) (numbered_from 0 (paths_of es))
      (all_seen (λ p. not (list_any (λ k. is_same_path p k) (keys slots.numbers)) ≡ false) 0 es among_keys) in
      let told : List (Path × ℕ) = flat_map (λ k. filter (at k) (numbered_from 0 (paths_of es))) (keys slots.numbers) in
      subst (λ ys. IsPermutation (numbered_from 0 (paths_of es)) ys)
      (ap (λ ys. told ++ ys) none ∙ append-nil told ∙ sym (by_keys (entries slots.numbers) each) ∙ sym is)
      (parted (keys slots.numbers) (numbered_from 0 (paths_of es)) (keys_ascend slots.numbers))

-- ---- sorted pairs

sorted_lent : (xs : List (Bor Path × ℕ)) → IsSorted (λ x y. numbered_cmp (lent_pair x) (lent_pair y)) xs → IsSorted numbered_cmp (map lent_pair xs)
sorted_lent [] h = λ k d low high. absurd (omega (arith, high))
sorted_lent (x ∷ xs) h = λ k d low high.
    let upper : k + 1 < length (x ∷ xs) = omega (arith, high, length-map (x ∷ xs) lent_pair) in
    let lower : k < length (x ∷ xs) = omega (arith, upper) in
    rw (get_or-map lent_pair (x ∷ xs) (k + 1) x d upper, get_or-map lent_pair (x ∷ xs) k x d lower) (h k x low upper)

pub sorted_pairs : (slots : Slots) (es : List EntryForm) (order new : List (Bor Path × ℕ)) → IsNumbered slots.numbers (paths_in slots)
    → ((p : Path) → (kept_in slots p).sights ≡ sights_beyond p 0 (map (entry_view []) es))
    → map lent_pair order ≡ flat_map (λ (x : Path × ℕ). slot_pairs slots.slots.items x.1) (entries slots.numbers)
    → IsPermutation order new → IsSorted (λ x y. numbered_cmp (lent_pair x) (lent_pair y)) new
    → AreByPath (map (λ (e : EntryForm). e.path) es) (map lent_pair new)
sorted_pairs slots es order new numbered sights is moved sorted =
    let same : paths_of (map (entry_view []) es) ≡ map (λ (e : EntryForm). e.path) es = map-map (λ (e : Entry). e.path) (entry_view []) es in record {
      each = subst (λ ps. IsPermutation (numbered_from 0 ps) (map lent_pair new)) same
          (IsPermutation-trans (numbered_from 0 (paths_of (map (entry_view []) es))) (map lent_pair order) (map lent_pair new)
          (all_numbered slots (map (entry_view []) es) numbered sights (map lent_pair order) is) (IsPermutation-map lent_pair order new moved));
      ascending = sorted_lent new sorted;
    }
