-- What is seen from an entry, by the entries at each path.
use Rattle.std.proofs.Common.{◌≡◌, ℕ, suc, ◌&&◌, ◌||◌, Bool, true, false, cond, not, List, [], ◌∷◌, ◌++◌, map, length, Option, Some, None, slice_get, refl, sym, ap, ap₂, ◌∙◌, arith, append_assoc, append-nil, length-append}
use Rattle.std.specs.List.{list_any, filter, flat_map}
use Rattle.std.proofs.lemmas.List.Folds.{list_any-append}
use Rattle.std.proofs.Math.Bool.{or-false}
use Rattle.acpi_space.specs.Lookups.{is_same_path}
use Rattle.acpi_conditions.specs.Entries.{Path, Turn, is_empty, Entry}
use Rattle.acpi_conditions.specs.Known.{Certain as CertainPath, is_certain, is_certain_scope, is_possible, is_possible_scope, settled}
use Rattle.acpi_conditions.specs.Links.{are_exclusive, is_part_of, seen_along}
use Rattle.acpi_conditions.specs.Turns.{turn_of}
use Rattle.acpi_conditions.specs.EntryForms.{entry_view}
use Rattle.acpi_conditions.specs.Views.{View, WayView, nothing_known}
use Rattle.acpi_conditions.specs.declared.slots.Sight.{Sight}
use Rattle.acpi_conditions.specs.declared.turns.Turn.{Turn as TurnForm}
use Rattle.acpi_conditions.specs.declared.entry.Entry.{Entry as EntryForm}
use Rattle.acpi_conditions.specs.declared.seen.Test.{Test}
use Rattle.acpi_conditions.specs.declared.seen.Test.TheVariants.{Certain, CertainScope, Possible, PossibleScope}
use Rattle.acpi_conditions.specs.declared.seen.Seen.TheInside.{Inside}
use Rattle.acpi_conditions.specs.declared.seen_along.SeenAlong.TheInside.{Inside as AlongInside}
use Rattle.acpi_conditions.specs.steps.Facts.{sights_beyond}
use Rattle.acpi_conditions.specs.steps.Views.{is_settled, passes, passes_if, view_of, way_view_of, HasWay}
use Rattle.acpi_conditions.proofs.Basics.{and_left, any_weaker}
use Rattle.acpi_conditions.proofs.WayTests.{any_map}

-- ---- tests of lists

any_same : {X : Type 0} (f g : X → Bool) (xs : List X) → ((x : X) → f x ≡ g x) → list_any f xs ≡ list_any g xs
any_same f g [] e = refl
any_same f g (x ∷ xs) e = ap₂ (λ a b. a || b) (e x) (any_same f g xs e)

and_comm : (a b : Bool) → (a && b) ≡ (b && a)
and_comm true true = refl
and_comm true false = refl
and_comm false true = refl
and_comm false false = refl

any_filter : {X : Type 0} (f keep : X → Bool) (xs : List X) → list_any f (filter keep xs) ≡ list_any (λ x. f x && keep x) xs
any_filter f keep [] = refl
any_filter f keep (x ∷ xs) = by (keep x) (any_filter f keep xs) ∙ ap (λ b. b || list_any (λ x. f x && keep x) xs) (and_comm (keep x) (f x))
  where
    by : (k : Bool) → list_any f (filter keep xs) ≡ list_any (λ x. f x && keep x) xs → list_any f (cond k (x ∷ filter keep xs) (filter keep xs)) ≡ ((k && f x) || list_any (λ x. f x && keep x) xs)
    by true ih = ap (λ b. f x || b) ih
    by false ih = ih

and_assoc : (a b c : Bool) → ((a && b) && c) ≡ (a && (b && c))
and_assoc true b c = refl
and_assoc false b c = refl

and_swap : (a b c : Bool) → ((a && b) && c) ≡ (a && (c && b))
and_swap true true true = refl
and_swap true true false = refl
and_swap true false true = refl
and_swap true false false = refl
and_swap false b c = refl

and_inside : (a b c d : Bool) → ((a && (b && c)) && d) ≡ (a && ((b && d) && c))
and_inside true true c d = and_comm c d
and_inside true false c d = refl
and_inside false b c d = refl

-- ---- the entries at a path

pub get_behind : {X : Type 0} (xs ys : List X) (y : X) → slice_get (xs ++ y ∷ ys) (length xs) ≡ Some y
get_behind [] ys y = refl
get_behind (x ∷ xs) ys y = get_behind xs ys y

module _ (test : Test) (ways : List (List Turn)) (way : List Turn) (p : Path) (all : List EntryForm) where
  by_sights : (n : ℕ) (before rest : List EntryForm) → all ≡ before ++ rest → n ≡ length before → list_any (λ x. passes_if test ways way (slice_get all x.number)) (sights_beyond p n (map (entry_view []) rest)) ≡ list_any (λ f. is_same_path f.path p && passes test way (entry_view ways f)) rest
  by_sights n before [] e k = refl
  by_sights n before (f ∷ rest) e k = by (is_same_path f.path p) (by_sights (suc n) (before ++ f ∷ []) rest (e ∙ sym (append_assoc before (f ∷ []) rest)) (omega (arith, k, length-append before (f ∷ []))))
    where
      found : passes_if test ways way (slice_get all n) ≡ passes test way (entry_view ways f)
      found = ap₂ (λ (es : List EntryForm) (m : ℕ). passes_if test ways way (slice_get es m)) e k ∙ ap (passes_if test ways way) (get_behind before rest f)

      by : (s : Bool) → list_any (λ x. passes_if test ways way (slice_get all x.number)) (sights_beyond p (suc n) (map (entry_view []) rest)) ≡ list_any (λ f. is_same_path f.path p && passes test way (entry_view ways f)) rest
          → list_any (λ x. passes_if test ways way (slice_get all x.number)) (cond s (record { number = n; is_scope = f.term.is_scope } ∷ sights_beyond p (suc n) (map (entry_view []) rest)) (sights_beyond p (suc n) (map (entry_view []) rest)))
          ≡ ((s && passes test way (entry_view ways f)) || list_any (λ f. is_same_path f.path p && passes test way (entry_view ways f)) rest)
      by true ih = ap₂ (λ a b. a || b) found ih
      by false ih = ih

pub any_at_path : (test : Test) (ways : List (List Turn)) (way : List Turn) (p : Path) (all entries : List EntryForm) (sights : List Sight) (b : Bool) → entries ≡ all → sights ≡ sights_beyond p 0 (map (entry_view []) all)
    → b ≡ list_any (λ x. passes_if test ways way (slice_get entries x.number)) sights
    → b ≡ list_any (λ f. is_same_path f.path p && passes test way f) (map (entry_view ways) all)
any_at_path test ways way p all entries sights b e k is =
    is ∙ ap₂ (λ (es : List EntryForm) (xs : List Sight). list_any (λ x. passes_if test ways way (slice_get es x.number)) xs) e k
    ∙ by_sights test ways way p all 0 [] all refl refl
    ∙ sym (any_map (entry_view ways) (λ f. is_same_path f.path p && passes test way f) all)

pub any_here : (test : Test) (s : Inside) (v : View) (p : Path) (turns : List TurnForm) (entries : List EntryForm) (sights : List Sight) (b : Bool) → view_of s ≡ v → HasWay s → turns ≡ s.turns.items → entries ≡ s.paths.now.entries
    → sights ≡ sights_beyond p 0 (map (entry_view []) s.paths.now.entries) → b ≡ list_any (λ x. passes_if test s.ways.now (map turn_of turns) (slice_get entries x.number)) sights
    → b ≡ list_any (λ f. is_same_path f.path p && passes test v.entry.way f) v.entries
any_here test s v p turns entries sights b view way t e at is =
    any_at_path test s.ways.now (map turn_of turns) p s.paths.now.entries entries sights b e at is
    ∙ ap (λ (w : List Turn). list_any (λ f. is_same_path f.path p && passes test w f) (map (entry_view s.ways.now) s.paths.now.entries)) (ap (map turn_of) t ∙ way)
    ∙ ap (λ (u : View). list_any (λ f. is_same_path f.path p && passes test u.entry.way f) u.entries) view

pub any_along : (test : Test) (s : AlongInside) (v : WayView) (p : Path) (turns : List TurnForm) (entries : List EntryForm) (sights : List Sight) (b : Bool) → way_view_of s ≡ v → turns ≡ s.turns.now → entries ≡ s.paths.now.entries
    → sights ≡ sights_beyond p 0 (map (entry_view []) s.paths.now.entries) → b ≡ list_any (λ x. passes_if test s.ways.now (map turn_of turns) (slice_get entries x.number)) sights
    → b ≡ list_any (λ f. is_same_path f.path p && passes test v.way f) v.entries
any_along test s v p turns entries sights b view t e at is =
    any_at_path test s.ways.now (map turn_of turns) p s.paths.now.entries entries sights b e at is
    ∙ ap (λ (w : List Turn). list_any (λ f. is_same_path f.path p && passes test w f) (map (entry_view s.ways.now) s.paths.now.entries)) (ap (map turn_of) t)
    ∙ ap (λ (u : WayView). list_any (λ f. is_same_path f.path p && passes test u.way f) u.entries) view

-- ---- a scope is something

module _ (ways : List (List Turn)) (way : List Turn) (all : List EntryForm) (sights : List Sight) where
  abbrev any_passes : Test → Bool
  any_passes test = list_any (λ (x : Sight). passes_if test ways way (slice_get all x.number)) sights

  pub scope_is_possible : any_passes PossibleScope ≡ true → any_passes Possible ≡ true
  scope_is_possible e = any_weaker (λ (x : Sight). passes_if PossibleScope ways way (slice_get all x.number)) (λ (x : Sight). passes_if Possible ways way (slice_get all x.number)) sights (λ x is. by (slice_get all x.number) is) e
    where
      by : (o : Option EntryForm) → passes_if PossibleScope ways way o ≡ true → passes_if Possible ways way o ≡ true
      by None is = cc
      by (Some f) is = and_left (not (are_exclusive (entry_view ways f).way way)) f.term.is_scope is

  pub scope_is_certain : any_passes CertainScope ≡ true → any_passes Certain ≡ true
  scope_is_certain e = any_weaker (λ (x : Sight). passes_if CertainScope ways way (slice_get all x.number)) (λ (x : Sight). passes_if Certain ways way (slice_get all x.number)) sights (λ x is. by (slice_get all x.number) is) e
    where
      by : (o : Option EntryForm) → passes_if CertainScope ways way o ≡ true → passes_if Certain ways way o ≡ true
      by None is = cc
      by (Some f) is = and_left (is_settled way (entry_view ways f)) (f.term.is_scope && not f.asks.no) is

-- ---- the four tests

pub possible_any : (way : List Turn) (p : Path) (es : List Entry) → list_any (λ f. is_same_path f.path p && passes Possible way f) es ≡ list_any (λ f. is_same_path f.path p) (filter (λ f. not (are_exclusive f.way way)) es)
possible_any way p es = sym (any_filter (λ f. is_same_path f.path p) (λ f. not (are_exclusive f.way way)) es)

pub possible_scope_any : (way : List Turn) (p : Path) (es : List Entry) → list_any (λ f. is_same_path f.path p && passes PossibleScope way f) es
    ≡ list_any (λ f. is_same_path f.path p && f.term.is_scope) (filter (λ f. not (are_exclusive f.way way)) es)
possible_scope_any way p es =
    sym (any_filter (λ f. is_same_path f.path p && f.term.is_scope) (λ f. not (are_exclusive f.way way)) es
    ∙ any_same (λ f. (is_same_path f.path p && f.term.is_scope) && not (are_exclusive f.way way)) (λ f. is_same_path f.path p && (not (are_exclusive f.way way) && f.term.is_scope)) es
    (λ f. and_swap (is_same_path f.path p) f.term.is_scope (not (are_exclusive f.way way))))

module _ (way : List Turn) (all : List Entry) (p : Path) where
  settled_any : (es : List Entry) → list_any (λ c. is_same_path c.path p) (flat_map settled es) ≡ list_any (λ e. is_same_path e.path p && not (e.asks.has || not (is_empty e.asks.needs))) es
  settled_any [] = refl
  settled_any (e ∷ es) =
      list_any-append (λ (c : CertainPath). is_same_path c.path p) (settled e) (flat_map settled es)
      ∙ ap₂ (λ a b. a || b) (by (e.asks.has || not (is_empty e.asks.needs))) (settled_any es)
    where
      by : (a : Bool) → list_any (λ (c : CertainPath). is_same_path c.path p) (cond a [] (record { path = e.path; is_scope = e.term.is_scope && not e.asks.no } ∷ [])) ≡ (is_same_path e.path p && not a)
      by true = sym (and_comm (is_same_path e.path p) false)
      by false = or-false (is_same_path e.path p) ∙ sym (and_comm (is_same_path e.path p) true)

  settled_any_scope : (es : List Entry) → list_any (λ c. is_same_path c.path p && c.is_scope) (flat_map settled es)
      ≡ list_any (λ e. is_same_path e.path p && (not (e.asks.has || not (is_empty e.asks.needs)) && (e.term.is_scope && not e.asks.no))) es
  settled_any_scope [] = refl
  settled_any_scope (e ∷ es) =
      list_any-append (λ (c : CertainPath). is_same_path c.path p && c.is_scope) (settled e) (flat_map settled es)
      ∙ ap₂ (λ a b. a || b) (by (e.asks.has || not (is_empty e.asks.needs))) (settled_any_scope es)
    where
      by : (a : Bool) → list_any (λ (c : CertainPath). is_same_path c.path p && c.is_scope) (cond a [] (record { path = e.path; is_scope = e.term.is_scope && not e.asks.no } ∷ []))
          ≡ (is_same_path e.path p && (not a && (e.term.is_scope && not e.asks.no)))
      by true = sym (and_comm (is_same_path e.path p) false)
      by false = or-false (is_same_path e.path p && (e.term.is_scope && not e.asks.no))

  pub certain_seen : list_any (λ f. is_same_path f.path p && passes Certain way f) all ≡ is_certain (seen_along nothing_known all way) p
  certain_seen =
      sym (ap (list_any (λ (c : CertainPath). is_same_path c.path p)) (append-nil (flat_map settled (filter (λ f. is_part_of f.way way) all)))
      ∙ settled_any (filter (λ f. is_part_of f.way way) all)
      ∙ any_filter (λ e. is_same_path e.path p && not (e.asks.has || not (is_empty e.asks.needs))) (λ f. is_part_of f.way way) all
      ∙ any_same (λ f. (is_same_path f.path p && not (f.asks.has || not (is_empty f.asks.needs))) && is_part_of f.way way) (λ f. is_same_path f.path p && passes Certain way f) all
      (λ f. and_assoc (is_same_path f.path p) (not (f.asks.has || not (is_empty f.asks.needs))) (is_part_of f.way way)))

  pub certain_scope_seen : list_any (λ f. is_same_path f.path p && passes CertainScope way f) all ≡ is_certain_scope (seen_along nothing_known all way) p
  certain_scope_seen =
      sym (ap (list_any (λ (c : CertainPath). is_same_path c.path p && c.is_scope)) (append-nil (flat_map settled (filter (λ f. is_part_of f.way way) all)))
      ∙ settled_any_scope (filter (λ f. is_part_of f.way way) all)
      ∙ any_filter (λ e. is_same_path e.path p && (not (e.asks.has || not (is_empty e.asks.needs)) && (e.term.is_scope && not e.asks.no))) (λ f. is_part_of f.way way) all
      ∙ any_same (λ f. (is_same_path f.path p && (not (f.asks.has || not (is_empty f.asks.needs)) && (f.term.is_scope && not f.asks.no))) && is_part_of f.way way) (λ f. is_same_path f.path p && passes CertainScope way f) all
      (λ f. and_inside (is_same_path f.path p) (not (f.asks.has || not (is_empty f.asks.needs))) (f.term.is_scope && not f.asks.no) (is_part_of f.way way)))

  pub possible_seen : list_any (λ f. is_same_path f.path p && passes Possible way f) all ≡ is_possible (seen_along nothing_known all way) p
  possible_seen = possible_any way p all

  pub possible_scope_seen : list_any (λ f. is_same_path f.path p && passes PossibleScope way f) all ≡ is_possible_scope (seen_along nothing_known all way) p
  possible_scope_seen = possible_scope_any way p all
