-- Slots of paths.
use Rattle.std.proofs.Common.{◌≡◌, ℕ, zero, suc, ◌<◌, Bool, true, false, cond, List, [], ◌∷◌, ◌++◌, length, ◌⊎◌, inl, inr, Option, Some, None, slice_get, slice_set, slice_index_or, Result, Ok, Err, OnErr, refl, sym, ap, ap₂, subst, ◌∙◌, arith}
use Rattle.std.specs.Option.{option_and_then}
use Rattle.std.specs.FinMap.{get, insert, empty, get-empty, get-insert}
use Rattle.std.proofs.lemmas.Option.{slice_get-get_or, slice_get_within, get_or_from_slice_get}
use Rattle.std.proofs.lemmas.List.{length-map, map_push}
use Rattle.std.proofs.Math.Seq.{map-set_same}
use Rattle.acpi_name.specs.Paths.{path_cmp}
use Rattle.acpi_name.specs.steps.PathOrder.{path_cmp_total}
use Rattle.acpi_space.specs.Lookups.{is_same_path}
use Rattle.acpi_space.specs.Spaces.{PathMap}
use Rattle.acpi_space.proofs.NodeWrites.{get_set, get_set_other}
use Rattle.acpi_space.proofs.Elements.{one_some, not_both}
use Rattle.acpi_conditions.specs.Entries.{Path}
use Rattle.acpi_conditions.specs.declared.slots.Slot.{Slot}
use Rattle.acpi_conditions.specs.declared.statuses.Presence.{Presence}
use Rattle.acpi_conditions.specs.declared.statuses.Presence.TheVariants.{Nothing}
use Rattle.acpi_conditions.specs.declared.slots.Sight.{Sight}
use Rattle.acpi_conditions.specs.steps.Slots.{Here, nothing_here, with_sight, here_of, kept_at, kept_over, paths_of, path_in, HasMore, IsNumbered}
use Rattle.acpi_conditions.proofs.Basics.{same_path, path_itself}

-- ---- lists

pub get_first : {X : Type 0} (xs ys : List X) (n : ℕ) → n < length xs → slice_get (xs ++ ys) n ≡ slice_get xs n
get_first [] ys n h = absurd (omega arith)
get_first (x ∷ xs) ys zero h = refl
get_first (x ∷ xs) ys (suc n) h = get_first xs ys n (omega arith)

get_last : {X : Type 0} (xs : List X) (y : X) → slice_get (xs ++ y ∷ []) (length xs) ≡ Some y
get_last [] y = refl
get_last (x ∷ xs) y = get_last xs y

-- what an index gives
pub found_at : {X : Type 0} (xs : List X) (n : ℕ) (x : X) → n < length xs → x ≡ slice_index_or xs n x → slice_get xs n ≡ Some x
found_at xs n x h is = slice_get-get_or xs n x h ∙ ap Some (sym is)

get_more : {X : Type 0} (xs : List X) (y x : X) (n : ℕ) → slice_get (xs ++ y ∷ []) n ≡ Some x → (slice_get xs n ≡ Some x) ⊎ ((n ≡ length xs) × (y ≡ x))
get_more [] y x zero e = inr (refl, one_some y x e)
get_more [] y x (suc n) e = cc
get_more (z ∷ xs) y x zero e = inl e
get_more (z ∷ xs) y x (suc n) e = by (get_more xs y x n e)
  where
    by : (slice_get xs n ≡ Some x) ⊎ ((n ≡ length xs) × (y ≡ x)) → (slice_get xs n ≡ Some x) ⊎ ((suc n ≡ suc (length xs)) × (y ≡ x))
    by (inl e) = inl e
    by (inr e) = inr (ap suc e.0, e.1)

-- ---- numbers

pub none_numbered : (m : PathMap ℕ) → m ≡ empty → IsNumbered m []
none_numbered m e = record { slot = λ p n h. absurd (not_both (get m p) n h (ap (λ (m : PathMap ℕ). get m p) e ∙ get-empty path_cmp p)); number = λ p n h. cc }

got : (m new : PathMap ℕ) (path : Path) (n : ℕ) → new ≡ insert m path n → (p : Path) → get new p ≡ cond (is_same_path p path) (Some n) (get m p)
got m new path n e p = ap (λ (m : PathMap ℕ). get m p) e ∙ get-insert path_cmp_total m path n p

module _ (m : PathMap ℕ) (slots : List Slot) (h : IsNumbered m (paths_of slots)) where
  pub number_within : (p : Path) (n : ℕ) → get m p ≡ Some n → n < length slots
  number_within p n e = let w : n < length (paths_of slots) = slice_get_within (paths_of slots) n p (h.slot p n e) in omega (arith, w, length-map slots (λ (s : Slot). s.path))

  numbers_apart : (p q : Path) (n : ℕ) → get m p ≡ Some n → get m q ≡ Some n → p ≡ q
  numbers_apart p q n e f = one_some p q (sym (h.slot p n e) ∙ h.slot q n f)

  pub path_there : (n : ℕ) → n < length slots → slice_get (paths_of slots) n ≡ Some (path_in (paths_of slots) n)
  path_there n l = slice_get-get_or (paths_of slots) n [] (omega (arith, l, length-map slots (λ (s : Slot). s.path)))

  pub number_there : (n : ℕ) → n < length slots → get m (path_in (paths_of slots) n) ≡ Some n
  number_there n l = h.number (path_in (paths_of slots) n) n (path_there n l)

pub path_within : (slots : List Slot) (n : ℕ) (p : Path) → slice_get (paths_of slots) n ≡ Some p → n < length slots
path_within slots n p e = let w : n < length (paths_of slots) = slice_get_within (paths_of slots) n p e in omega (arith, w, length-map slots (λ (s : Slot). s.path))

pub path_got : (paths : List Path) (n : ℕ) (p : Path) → slice_get paths n ≡ Some p → path_in paths n ≡ p
path_got paths n p e = get_or_from_slice_get paths n p [] e

pub one_numbered : (m new : PathMap ℕ) (paths : List Path) (path : Path) → IsNumbered m paths → get m path ≡ None → new ≡ insert m path (length paths) → IsNumbered new (paths ++ path ∷ [])
one_numbered m new paths path h free e = record {
  slot = λ p n x. slot p n (is_same_path p path) refl (sym (got m new path (length paths) e p) ∙ x);
  number = λ p n x. got m new path (length paths) e p ∙ number p n (is_same_path p path) refl (get_more paths path p n x);
}
  where
    slot : (p : Path) (n : ℕ) (b : Bool) → is_same_path p path ≡ b → cond b (Some (length paths)) (get m p) ≡ Some n → slice_get (paths ++ path ∷ []) n ≡ Some p
    slot p n true u x = ap (slice_get (paths ++ path ∷ [])) (sym (one_some (length paths) n x)) ∙ get_last paths path ∙ ap (λ (q : Path). Some q) (sym (same_path p path u))
    slot p n false u x = get_first paths (path ∷ []) n (slice_get_within paths n p (h.slot p n x)) ∙ h.slot p n x

    number : (p : Path) (n : ℕ) (b : Bool) → is_same_path p path ≡ b → (slice_get paths n ≡ Some p) ⊎ ((n ≡ length paths) × (path ≡ p)) → cond b (Some (length paths)) (get m p) ≡ Some n
    number p n true u (inl x) = absurd (not_both (get m p) n (h.number p n x) (ap (get m) (same_path p path u) ∙ free))
    number p n true u (inr x) = ap (λ (i : ℕ). Some i) (sym x.0)
    number p n false u (inl x) = h.number p n x
    number p n false u (inr x) = absurd (apart (sym (path_itself p path (sym x.1)) ∙ u))
      where
        apart : true ≡ false → ⊥
        apart f = cc

-- ---- what is kept

pub nothing_kept : (m : PathMap ℕ) (slots : List Slot) (p : Path) → m ≡ empty → kept_at m slots p ≡ nothing_here
nothing_kept m slots p e = ap (λ o. here_of (option_and_then (λ n. slice_get slots n) o)) (ap (λ (m : PathMap ℕ). get m p) e ∙ get-empty path_cmp p)

-- with one slot more
kept_padded : (m : PathMap ℕ) (slots : List Slot) (s : Slot) (p : Path) → IsNumbered m (paths_of slots) → kept_at m (slots ++ s ∷ []) p ≡ kept_at m slots p
kept_padded m slots s p h = by (get m p) refl
  where
    by : (o : Option ℕ) → get m p ≡ o → here_of (option_and_then (λ n. slice_get (slots ++ s ∷ []) n) o) ≡ here_of (option_and_then (λ n. slice_get slots n) o)
    by None e = refl
    by (Some n) e = ap here_of (get_first slots (s ∷ []) n (number_within m slots h p n e))

-- .. of a path that had none
pub kept_new : (m new : PathMap ℕ) (slots : List Slot) (s : Slot) (path p : Path) → IsNumbered m (paths_of slots) → get m path ≡ None → new ≡ insert m path (length slots) → here_of (Some s) ≡ nothing_here
    → kept_at new (slots ++ s ∷ []) p ≡ kept_at m slots p
kept_new m new slots s path p h free e is = by (is_same_path p path) refl
  where
    by : (b : Bool) → is_same_path p path ≡ b → kept_at new (slots ++ s ∷ []) p ≡ kept_at m slots p
    by true u =
        ap (λ o. here_of (option_and_then (λ n. slice_get (slots ++ s ∷ []) n) o)) (got m new path (length slots) e p ∙ ap (λ b. cond b (Some (length slots)) (get m p)) u)
        ∙ ap here_of (get_last slots s) ∙ is ∙ ap (λ o. here_of (option_and_then (λ n. slice_get slots n) o)) (sym (ap (get m) (same_path p path u) ∙ free))
    by false u =
        ap (λ o. here_of (option_and_then (λ n. slice_get (slots ++ s ∷ []) n) o)) (got m new path (length slots) e p ∙ ap (λ b. cond b (Some (length slots)) (get m p)) u)
        ∙ kept_padded m slots s p h

-- with one slot changed
module _ (m : PathMap ℕ) (slots : List Slot) (path : Path) (n : ℕ) (was now : Slot) (h : IsNumbered m (paths_of slots)) (e : get m path ≡ Some n) (f : slice_get slots n ≡ Some was) where
  pub kept_here : kept_at m slots path ≡ here_of (Some was)
  kept_here = ap (λ o. here_of (option_and_then (λ n. slice_get slots n) o)) e ∙ ap here_of f

  pub kept_set : (change : Here → Here) → here_of (Some now) ≡ change (here_of (Some was)) → (p : Path) → kept_at m (slice_set slots n now) p ≡ kept_over path change (kept_at m slots) p
  kept_set change is p = by (is_same_path p path) refl
    where
      other : (o : Option ℕ) → get m p ≡ o → is_same_path p path ≡ false → here_of (option_and_then (λ i. slice_get (slice_set slots n now) i) o) ≡ here_of (option_and_then (λ i. slice_get slots i) o)
      other None x u = refl
      other (Some i) x u = ap here_of (get_set_other slots n i now (λ same. apart (numbers_apart m slots h p path n (x ∙ ap Some same) e)))
        where
          apart : p ≡ path → ⊥
          apart same = let t : is_same_path p path ≡ true = path_itself p path same in let f : true ≡ false = sym t ∙ u in cc

      by : (b : Bool) → is_same_path p path ≡ b → kept_at m (slice_set slots n now) p ≡ cond b (change (kept_at m slots path)) (kept_at m slots p)
      by true u =
          ap (λ o. here_of (option_and_then (λ i. slice_get (slice_set slots n now) i) o)) (ap (get m) (same_path p path u) ∙ e)
          ∙ ap here_of (get_set slots n now (number_within m slots h path n e)) ∙ is ∙ ap change (sym kept_here)
      by false u = other (get m p) refl u

  -- .. to one with the same kept at its path
  pub kept_still : here_of (Some now) ≡ here_of (Some was) → (p : Path) → kept_at m (slice_set slots n now) p ≡ kept_at m slots p
  kept_still is p = kept_set (λ x. x) is p ∙ by (is_same_path p path) refl
    where
      by : (b : Bool) → is_same_path p path ≡ b → cond b (kept_at m slots path) (kept_at m slots p) ≡ kept_at m slots p
      by true u = ap (kept_at m slots) (sym (same_path p path u))
      by false u = refl

pub paths_kept : (slots : List Slot) (n : ℕ) (was now : Slot) → was ≡ slice_index_or slots n was → now.path ≡ was.path → paths_of (slice_set slots n now) ≡ paths_of slots
paths_kept slots n was now e same = map-set_same (λ (s : Slot). s.path) slots n now was (same ∙ ap (λ (s : Slot). s.path) e)

pub numbered_still : (m : PathMap ℕ) (slots : List Slot) (n : ℕ) (was now : Slot) → IsNumbered m (paths_of slots) → was ≡ slice_index_or slots n was → now.path ≡ was.path → IsNumbered m (paths_of (slice_set slots n now))
numbered_still m slots n was now h e same = subst (IsNumbered m) (sym (paths_kept slots n was now e same)) h

-- ---- a slot more

module _ (m new : PathMap ℕ) (slots pushed : List Slot) (s : Slot) (key path : Path) (n : ℕ) (h : IsNumbered m (paths_of slots)) (free : get m key ≡ None) (e : new ≡ insert m key n) (count : n ≡ length slots)
    (push : pushed ≡ slots ++ s ∷ []) (k : key ≡ path) (at : s.path ≡ path) where
  paths_pushed : paths_of pushed ≡ paths_of slots ++ path ∷ []
  paths_pushed = ap paths_of push ∙ map_push (λ (x : Slot). x.path) slots s ∙ ap (λ (q : Path). paths_of slots ++ q ∷ []) at

  path_free : get m path ≡ None
  path_free = ap (get m) (sym k) ∙ free

  count_paths : n ≡ length (paths_of slots)
  count_paths = count ∙ sym (length-map slots (λ (x : Slot). x.path))

  pub numbered_more : IsNumbered new (paths_of pushed)
  numbered_more = subst (IsNumbered new) (sym paths_pushed) (one_numbered m new (paths_of slots) path h path_free (e ∙ ap₂ (λ (q : Path) (i : ℕ). insert m q i) k count_paths))

  pub kept_more : here_of (Some s) ≡ nothing_here → (p : Path) → kept_at new pushed p ≡ kept_at m slots p
  kept_more empty p = ap (λ (l : List Slot). kept_at new l p) push ∙ kept_new m new slots s path p h path_free (e ∙ ap₂ (λ (q : Path) (i : ℕ). insert m q i) k count) empty

  pub paths_more : HasMore (paths_of slots) (paths_of pushed)
  paths_more = (path ∷ [], paths_pushed)

  pub number_more : slice_get (paths_of pushed) n ≡ Some path
  number_more = ap₂ (λ (l : List Path) (i : ℕ). slice_get l i) paths_pushed count_paths ∙ get_last (paths_of slots) path

-- ---- a slot

abbrev here : List Sight → Presence → Here
here xs c = record { sights = xs; certain = c }

pub empty_here : (s : Slot) → s.sights.items ≡ [] → s.certain ≡ Nothing → here_of (Some s) ≡ nothing_here
empty_here s e f = ap₂ here e f

pub sight_put : (was now : Slot) (x : Sight) → now.sights.items ≡ was.sights.items ++ x ∷ [] → now.certain ≡ was.certain → here_of (Some now) ≡ with_sight x (here_of (Some was))
sight_put was now x e f = ap₂ here e f

pub sights_stay : (was now : Slot) → now.sights.items ≡ was.sights.items → now.certain ≡ was.certain → here_of (Some now) ≡ here_of (Some was)
sights_stay was now e f = ap₂ here e f

pub on_err : {X E : Type 0} (r : Result X E) (P : Type 0) → P → OnErr r P
on_err (Ok x) P h = tt
on_err (Err e) P h = h
