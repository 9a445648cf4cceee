-- The numbers of the entries at a path, and below it.
use Rattle.std.proofs.Common.{◌≡◌, ℕ, suc, cond, List, [], ◌∷◌, map, slice_get, Option, Some, None, refl, sym, ap, ◌∙◌}
use Rattle.std.specs.Option.{option_map}
use Rattle.std.proofs.lemmas.Option.{slice_get-map}
use Rattle.acpi_conditions.specs.Entries.{Path, Turn, Entry}
use Rattle.acpi_conditions.specs.EntryForms.{entry_view}
use Rattle.acpi_conditions.specs.declared.entry.Entry.{Entry as EntryForm}
use Rattle.acpi_conditions.specs.Met.{Meeting, numbers_beyond, numbers_met}
use Rattle.acpi_survey.specs.Surveys.{numbers_at, lies_below, numbers_below, without_way}

pub all_met : (m : Meeting) (p : Path) (es : List Entry) → m.way ≡ [] → m.entries ≡ es → numbers_met m p ≡ numbers_at p es
all_met m p es way entries = ap (λ (w : List Turn). numbers_beyond w p 0 m.entries) way ∙ ap (numbers_at p) entries

-- ---- below a path

-- the paths alone count
same_below : (p : Path) (n : ℕ) (us vs : List (List Turn)) (es : List EntryForm) → numbers_below p n (map (entry_view us) es) ≡ numbers_below p n (map (entry_view vs) es)
same_below p n us vs [] = refl
same_below p n us vs (e ∷ es) = ap (λ (ns : List ℕ). cond (lies_below p e.path) (n ∷ ns) ns) (same_below p (suc n) us vs es)

pub all_below : (p : Path) (ways : List (List Turn)) (es : List EntryForm) (all : List Entry) → map (entry_view ways) es ≡ all → numbers_below p 0 (map (entry_view []) es) ≡ numbers_below p 0 all
all_below p ways es all is = same_below p 0 [] ways es ∙ ap (numbers_below p 0) is

-- ---- an entry but for its way

pub but_for_way : (ways : List (List Turn)) (es : List EntryForm) (all : List Entry) (n : ℕ) → map (entry_view ways) es ≡ all
    → option_map (λ (e : EntryForm). without_way (entry_view [] e)) (slice_get es n) ≡ option_map without_way (slice_get all n)
but_for_way ways es all n is =
    both (slice_get es n) ∙ sym (ap (option_map without_way) (slice_get-map (entry_view ways) es n)) ∙ ap (λ (a : List Entry). option_map without_way (slice_get a n)) is
  where
    both : (o : Option EntryForm) → option_map (λ (e : EntryForm). without_way (entry_view [] e)) o ≡ option_map without_way (option_map (entry_view ways) o)
    both None = refl
    both (Some e) = refl
