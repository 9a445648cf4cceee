-- Which entries control may have met, by the entries at each path.
use Rattle.std.proofs.Common.{◌≡◌, ℕ, suc, ◌&&◌, Bool, true, false, cond, List, [], ◌∷◌, ◌++◌, map, length, slice_get, refl, sym, ap, ap₂, ◌∙◌, arith, append_assoc, length-append}
use Rattle.std.specs.List.{list_any, filter}
use Rattle.acpi_space.specs.Lookups.{is_same_path}
use Rattle.acpi_conditions.specs.Entries.{Path, Turn}
use Rattle.acpi_conditions.specs.Known.{is_possible, is_possible_scope}
use Rattle.acpi_conditions.specs.Turns.{turn_of}
use Rattle.acpi_conditions.specs.EntryForms.{entry_view}
use Rattle.acpi_conditions.specs.Met.{Meeting, met_by, may_be_met, numbers_beyond, numbers_met}
use Rattle.acpi_conditions.specs.declared.slots.Sight.{Sight}
use Rattle.acpi_conditions.specs.declared.turns.Turn.{Turn as TurnForm}
use Rattle.acpi_conditions.specs.declared.entry.Entry.{Entry as EntryForm}
use Rattle.acpi_conditions.specs.declared.seen.Test.{Test}
use Rattle.acpi_conditions.specs.declared.seen.Test.TheVariants.{Possible, PossibleScope}
use Rattle.acpi_conditions.specs.declared.met.Met.TheInside.{Inside}
use Rattle.acpi_conditions.specs.steps.Facts.{sights_beyond}
use Rattle.acpi_conditions.specs.steps.Views.{passes, passes_if}
use Rattle.acpi_conditions.specs.steps.Meetings.{meeting_of}
use Rattle.acpi_conditions.proofs.Viewing.{get_behind, any_at_path, possible_any, possible_scope_any}

-- ---- the tests

module _ (k : Inside) (m : Meeting) (p : Path) (turns : List TurnForm) (b : Bool) (view : meeting_of k ≡ m) (t : turns ≡ k.turns.items) where
  test_met : (test : Test) → b ≡ list_any (λ f. is_same_path f.path p && passes test (map turn_of turns) f) (map (entry_view k.ways.now) k.paths.now.entries)
      → b ≡ list_any (λ f. is_same_path f.path p && passes test m.way f) m.entries
  test_met test is =
      is ∙ ap (λ (ts : List TurnForm). list_any (λ f. is_same_path f.path p && passes test (map turn_of ts) f) (map (entry_view k.ways.now) k.paths.now.entries)) t
      ∙ ap (λ (u : Meeting). list_any (λ f. is_same_path f.path p && passes test u.way f) u.entries) view

  module _ (entries : List EntryForm) (sights : List Sight) (e : entries ≡ k.paths.now.entries) (at : sights ≡ sights_beyond p 0 (map (entry_view []) k.paths.now.entries)) where
    test_at : (test : Test) → b ≡ list_any (λ x. passes_if test k.ways.now (map turn_of turns) (slice_get entries x.number)) sights → b ≡ list_any (λ f. is_same_path f.path p && passes test m.way f) m.entries
    test_at test is = test_met test (any_at_path test k.ways.now (map turn_of turns) p k.paths.now.entries entries sights b e at is)

    pub possible_met : b ≡ list_any (λ x. passes_if Possible k.ways.now (map turn_of turns) (slice_get entries x.number)) sights → b ≡ is_possible (met_by m) p
    possible_met is = test_at Possible is ∙ possible_any m.way p m.entries

    pub possible_scope_met : b ≡ list_any (λ x. passes_if PossibleScope k.ways.now (map turn_of turns) (slice_get entries x.number)) sights → b ≡ is_possible_scope (met_by m) p
    possible_scope_met is = test_at PossibleScope is ∙ possible_scope_any m.way p m.entries

-- ---- the numbers

module _ (ways : List (List Turn)) (way : List Turn) (p : Path) (all : List EntryForm) where
  abbrev is_met : ℕ → Bool
  is_met n = passes_if Possible ways way (slice_get all n)

  by_sights : (n : ℕ) (before rest : List EntryForm) → all ≡ before ++ rest → n ≡ length before → filter is_met (map (λ (x : Sight). x.number) (sights_beyond p n (map (entry_view []) rest))) ≡ numbers_beyond way p n (map (entry_view ways) rest)
  by_sights n before [] e k = refl
  by_sights n before (f ∷ rest) e k = by (is_same_path f.path p) (by_sights (suc n) (before ++ f ∷ []) rest (e ∙ sym (append_assoc before (f ∷ []) rest)) (omega (arith, k, length-append before (f ∷ []))))
    where
      found : is_met n ≡ may_be_met way (entry_view ways f)
      found = ap₂ (λ (es : List EntryForm) (i : ℕ). passes_if Possible ways way (slice_get es i)) e k ∙ ap (passes_if Possible ways way) (get_behind before rest f)

      by : (s : Bool) → filter is_met (map (λ (x : Sight). x.number) (sights_beyond p (suc n) (map (entry_view []) rest))) ≡ numbers_beyond way p (suc n) (map (entry_view ways) rest)
          → filter is_met (map (λ (x : Sight). x.number) (cond s (record { number = n; is_scope = f.term.is_scope } ∷ sights_beyond p (suc n) (map (entry_view []) rest)) (sights_beyond p (suc n) (map (entry_view []) rest))))
          ≡ cond (s && may_be_met way (entry_view ways f)) (n ∷ numbers_beyond way p (suc n) (map (entry_view ways) rest)) (numbers_beyond way p (suc n) (map (entry_view ways) rest))
      by true ih = ap₂ (λ (b : Bool) (ns : List ℕ). cond b (n ∷ ns) ns) found ih
      by false ih = ih

pub numbers_from : (ways : List (List Turn)) (all : List EntryForm) (way : List Turn) (p : Path) (turns : List TurnForm) (entries : List EntryForm) (sights : List Sight) (ns : List ℕ) → map turn_of turns ≡ way → entries ≡ all → sights ≡ sights_beyond p 0 (map (entry_view []) all)
    → ns ≡ filter (λ n. passes_if Possible ways (map turn_of turns) (slice_get entries n)) (map (λ (x : Sight). x.number) sights) → ns ≡ numbers_beyond way p 0 (map (entry_view ways) all)
numbers_from ways all way p turns entries sights ns t e s is =
    is ∙ ap₂ (λ (w : List Turn) (es : List EntryForm). filter (λ n. passes_if Possible ways w (slice_get es n)) (map (λ (x : Sight). x.number) sights)) t e
    ∙ ap (λ (xs : List Sight). filter (is_met ways way p all) (map (λ (x : Sight). x.number) xs)) s
    ∙ by_sights ways way p all 0 [] all refl refl

pub numbers_are : (k : Inside) (m : Meeting) (p : Path) (turns : List TurnForm) (entries : List EntryForm) (sights : List Sight) (ns : List ℕ) → meeting_of k ≡ m → turns ≡ k.turns.items → entries ≡ k.paths.now.entries → sights ≡ sights_beyond p 0 (map (entry_view []) k.paths.now.entries)
    → ns ≡ filter (λ n. passes_if Possible k.ways.now (map turn_of turns) (slice_get entries n)) (map (λ (x : Sight). x.number) sights) → ns ≡ numbers_met m p
numbers_are k m p turns entries sights ns view t e s is =
    numbers_from k.ways.now k.paths.now.entries (map turn_of k.turns.items) p turns entries sights ns (ap (map turn_of) t) e s is ∙ ap (λ (u : Meeting). numbers_met u p) view
