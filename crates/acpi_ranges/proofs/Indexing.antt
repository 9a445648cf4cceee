-- The code's maps keep what is known behind all tables.
use Rattle.std.proofs.Common.{◌≡◌, ◌==◌, ℕ, Bool, true, false, cond, List, [], ◌∷◌, map, Option, Some, None, option_map, unwrap_or, refl, ap, ◌∙◌}
use Rattle.std.specs.Global.{Vec}
use Rattle.acpi_name.specs.Names.{NameParts}
use Rattle.acpi_conditions.specs.Entries.{Path, Turn, Entry, Why, Refusal}
use Rattle.acpi_conditions.specs.EntryForms.{entry_view, refusal_of, why_of}
use Rattle.acpi_conditions.specs.declared.entry.Entry.{Entry as EntryForm}
use Rattle.acpi_conditions.specs.declared.packages.Refusal.{Refusal as RefusalForm}
use Rattle.acpi_conditions.specs.declared.placing.Reason.{Reason}
use Rattle.acpi_survey.specs.SourceViews.{unknown_of}
use Rattle.acpi_survey.specs.declared.remarks.Unknown.{Unknown}
use Rattle.acpi_ranges.specs.Places.{last_or}
use Rattle.acpi_ranges.specs.steps.Indexes.{names_or_none}

-- entries as the code keeps them have the same paths at the same places
pub entry_pairs : (ways : List (List Turn)) (es : List EntryForm)
    → map {B = ℕ × Path} (λ (e : Entry). (e.term.place, e.path)) (map (entry_view ways) es) ≡ map {B = ℕ × Path} (λ (e : EntryForm). (e.term.place, e.path)) es
entry_pairs ways [] = refl
entry_pairs ways (e ∷ es) = ap (λ (ps : List (ℕ × Path)). (e.term.place, e.path) ∷ ps) (entry_pairs ways es)

chosen : (b : Bool) (r : Reason) (other : Option Reason) → option_map why_of (cond b (Some r) other) ≡ cond b (Some (why_of r)) (option_map why_of other)
chosen true r other = refl
chosen false r other = refl

-- the reason of a refusal is kept as the code has it
pub last_refused : (rs : List RefusalForm) (other : Option Reason) (q : ℕ)
    → option_map why_of (last_or other (map {B = ℕ × Reason} (λ (r : RefusalForm). (r.place, r.reason)) rs) q) ≡ last_or (option_map why_of other) (map {B = ℕ × Why} (λ (r : Refusal). (r.place, r.why)) (map refusal_of rs)) q
last_refused [] other q = refl
last_refused (r ∷ rs) other q =
    last_refused rs (cond (r.place == q) (Some r.reason) other) q
    ∙ ap (λ (o : Option Why). last_or o (map {B = ℕ × Why} (λ (r : Refusal). (r.place, r.why)) (map refusal_of rs)) q) (chosen (r.place == q) r.reason other)

abbrev items_of : Option (Vec NameParts) → Option (List NameParts)
items_of o = option_map (λ (v : Vec NameParts). v.items) o

names_chosen : (b : Bool) (v : Vec NameParts) (other : Option (Vec NameParts)) → items_of (cond b (Some v) other) ≡ cond b (Some v.items) (items_of other)
names_chosen true v other = refl
names_chosen false v other = refl

names_are : (o : Option (Vec NameParts)) → names_or_none o ≡ unwrap_or (items_of o) []
names_are None = refl
names_are (Some v) = refl

-- so are the names of which nothing is known
items_last : (us : List Unknown) (other : Option (Vec NameParts)) (q : ℕ)
    → items_of (last_or other (map {B = ℕ × Vec NameParts} (λ (u : Unknown). (u.place, u.names)) us) q) ≡ last_or (items_of other) (map unknown_of us) q
items_last [] other q = refl
items_last (u ∷ us) other q =
    items_last us (cond (u.place == q) (Some u.names) other) q
    ∙ ap (λ (o : Option (List NameParts)). last_or o (map unknown_of us) q) (names_chosen (u.place == q) u.names other)

pub last_unknown : (us : List Unknown) (q : ℕ)
    → names_or_none (last_or None (map {B = ℕ × Vec NameParts} (λ (u : Unknown). (u.place, u.names)) us) q) ≡ unwrap_or (last_or None (map unknown_of us) q) []
last_unknown us q =
    names_are (last_or None (map {B = ℕ × Vec NameParts} (λ (u : Unknown). (u.place, u.names)) us) q)
    ∙ ap (λ (o : Option (List NameParts)). unwrap_or o []) (items_last us None q)
