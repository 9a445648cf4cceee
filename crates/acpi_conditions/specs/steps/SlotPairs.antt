-- The entries of slots that are shown one after another.
use Rattle.std.specs.Prelude.{◌≡◌, ℕ, List, [], ◌++◌, map, Option, Some, None, slice_get}
use Rattle.std.specs.List.{flat_map}
use Rattle.acpi_conditions.specs.ByPath.{lent_pair}
use Rattle.acpi_conditions.specs.Entries.{Path}
use Rattle.acpi_conditions.specs.declared.by_path.Numbered.{Numbered}
use Rattle.acpi_conditions.specs.declared.slots.Slot.{Slot}

-- the path of a slot, with the number of each entry there
abbrev pub pairs_in : Option Slot → List (Path × ℕ)
pairs_in None = []
pairs_in (Some s) = map (λ x. (s.path, x.number)) s.sights.items

abbrev pub slot_pairs : List Slot → ℕ → List (Path × ℕ)
slot_pairs slots n = pairs_in (slice_get slots n)

-- those of the slots that were shown are put behind the others
abbrev pub WereShown : Numbered → List (Path × ℕ) → Numbered → Type 0
WereShown first pairs last =
    (last.slots.now ≡ first.slots.now)
    × (map lent_pair last.order.items
    ≡ map lent_pair first.order.items ++ flat_map (λ x. slot_pairs first.slots.now x.1) pairs)
