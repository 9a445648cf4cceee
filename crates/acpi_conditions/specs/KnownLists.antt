-- What is known of the paths, as lists that answer the four tests (ACPI 6.5, 5.3).
use Rattle.std.specs.Prelude.{◌&&◌, ℕ, suc, Bool, false, cond, nat_le, nat_lt, List, [], ◌∷◌, map, reverse, take}
use Rattle.std.specs.List.{list_any}
use Rattle.acpi_conditions.specs.Entries.{Turn, Entry}
use Rattle.acpi_conditions.specs.Known.{Certain, Known}
use Rattle.acpi_conditions.specs.EntryForms.{entry_view}
use Rattle.acpi_conditions.specs.declared.entry.Entry.{Entry as EntryForm}
use Rattle.acpi_conditions.specs.declared.facts.HiddenRange.{HiddenRange}
use Rattle.acpi_conditions.specs.declared.facts.Mark.{Mark}

-- the entries in their order, what is certain, the newest first, the ranges of entries that are hidden, and whether a
-- While is around
pub record KnownLists : Type 0 where
  pub entries : List EntryForm
  pub certain : List Certain
  pub hidden : List HiddenRange
  pub in_loop : Bool

-- one of the ranges has the number
abbrev pub is_hidden : List HiddenRange → ℕ → Bool
is_hidden ranges n = list_any (λ r. nat_le r.from n && nat_lt n r.to) ranges

-- the entries that no range hides, of those from a number on
abbrev pub seen_beyond : List HiddenRange → ℕ → List Entry → List Entry
seen_beyond ranges n [] = []
seen_beyond ranges n (e ∷ es) =
    cond (is_hidden ranges n) (seen_beyond ranges (suc n) es) (e ∷ seen_beyond ranges (suc n) es)

-- what is known by the lists, with the ways that their entries have
abbrev pub known_by : List (List Turn) → KnownLists → Known
known_by ways k =
    record {
      entries = seen_beyond k.hidden 0 (map (entry_view ways) k.entries);
      certain = k.certain;
      in_loop = k.in_loop;
    }

abbrev pub nothing_listed : KnownLists
nothing_listed = record { entries = []; certain = []; hidden = []; in_loop = false }

-- ---- at an earlier moment

-- so many of what is certain, the oldest
abbrev pub oldest : ℕ → List Certain → List Certain
oldest n cs = reverse (take n (reverse cs))

-- the lists behind a package: hidden is what was at its mark, and a While is around where one was; certain is what was
-- inside, or at the mark
abbrev pub lists_behind : Mark → Bool → KnownLists → KnownLists
lists_behind m keeps k =
    record k {
      certain = cond keeps k.certain (oldest m.certain k.certain);
      hidden = take m.hidden k.hidden;
      in_loop = m.in_loop;
    }

-- the lists as they stood at the mark
abbrev pub lists_at : Mark → KnownLists → KnownLists
lists_at m k = record (lists_behind m false k) { entries = take m.entries k.entries }
