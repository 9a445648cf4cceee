-- What is certain as a stack of facts, and the entries at a path (ACPI 6.5, 5.3).
use Rattle.std.specs.Prelude.{◌≡◌, ◌<◌, ◌&&◌, ℕ, suc, Bool, true, false, cond, not, List, [], ◌∷◌, map, reverse, length, ⊤}
use Rattle.std.specs.List.{list_any}
use Rattle.acpi_space.specs.Lookups.{is_same_path}
use Rattle.acpi_conditions.specs.Entries.{Path, Entry}
use Rattle.acpi_conditions.specs.Known.{Certain}
use Rattle.acpi_conditions.specs.KnownLists.{is_hidden}
use Rattle.acpi_conditions.specs.declared.statuses.Presence.{Presence}
use Rattle.acpi_conditions.specs.declared.statuses.Presence.TheVariants.{Nothing, Object, Scope}
use Rattle.acpi_conditions.specs.declared.slots.Sight.{Sight}
use Rattle.acpi_conditions.specs.declared.facts.Fact.{Fact}
use Rattle.acpi_conditions.specs.declared.facts.HiddenRange.{HiddenRange}
use Rattle.acpi_conditions.specs.declared.slots.Slots.{Slots}
use Rattle.acpi_conditions.specs.steps.Slots.{Here, kept_at, paths_of, path_in, IsNumbered}

-- ---- what is certain

-- one fact more at a path
abbrev pub raised : Bool → Presence → Presence
raised true c = Scope
raised false Scope = Scope
raised false Object = Object
raised false Nothing = Object

abbrev pub certain_of : List Path → Fact → Certain
certain_of paths f = record { path = path_in paths f.slot; is_scope = f.is_scope }

-- what is certain at a path, by the facts, the newest first
abbrev pub certainty_at : List Path → Path → List Fact → Presence
certainty_at paths p [] = Nothing
certainty_at paths p (f ∷ fs) = cond (is_same_path (path_in paths f.slot) p)
    (raised f.is_scope (certainty_at paths p fs)) (certainty_at paths p fs)

-- each fact is of a slot, and knows what was certain at its path before it
abbrev pub AreFacts : List Path → List Fact → Type 0
AreFacts paths [] = ⊤
AreFacts paths (f ∷ fs) = (f.slot < length paths)
    × ((f.before ≡ certainty_at paths (path_in paths f.slot) fs) × AreFacts paths fs)

-- ---- which entries are seen

-- the entries at a path, of those from a number on
abbrev pub sights_beyond : Path → ℕ → List Entry → List Sight
sights_beyond p n [] = []
sights_beyond p n (e ∷ es) =
    cond (is_same_path e.path p)
    (record { number = n; is_scope = e.term.is_scope } ∷ sights_beyond p (suc n) es)
    (sights_beyond p (suc n) es)

-- one of the entries is seen, and one whose object is a scope
abbrev pub is_seen : List HiddenRange → List Sight → Bool
is_seen ranges xs = list_any (λ x. not (is_hidden ranges x.number)) xs

abbrev pub is_scope_seen : List HiddenRange → List Sight → Bool
is_scope_seen ranges xs = list_any (λ x. x.is_scope && not (is_hidden ranges x.number)) xs

-- ---- slots and facts

abbrev pub kept_in : Slots → Path → Here
kept_in s = kept_at s.numbers s.slots.items

abbrev pub paths_in : Slots → List Path
paths_in s = paths_of s.slots.items

-- what is certain by the facts, which stand the oldest first
abbrev pub certain_by : Slots → List Fact → List Certain
certain_by s fs = map (certain_of (paths_in s)) (reverse fs)

-- the slots say what is certain by the facts
pub record IsCertainBy (slots : Slots) (fs : List Fact) : Type 0 where
  pub numbered : IsNumbered slots.numbers (paths_in slots)
  pub certain : (p : Path)
      → (kept_in slots p).certain ≡ certainty_at (paths_in slots) p (reverse fs)
  pub facts : AreFacts (paths_in slots) (reverse fs)

-- the entries at each path stay
abbrev pub SameSights : Slots → Slots → Type 0
SameSights old new = (p : Path) → (kept_in new p).sights ≡ (kept_in old p).sights
