-- What is kept at each path: the entries there, and what is certain (ACPI 6.5, 5.3).
use Rattle.std.specs.Prelude.{◌≡◌, ℕ, cond, List, [], ◌∷◌, ◌++◌, map, Option, Some, None, slice_get, slice_index_or}
use Rattle.std.specs.Option.{option_and_then}
use Rattle.std.specs.FinMap.{get}
use Rattle.acpi_space.specs.Lookups.{is_same_path}
use Rattle.acpi_space.specs.Spaces.{PathMap}
use Rattle.acpi_conditions.specs.Entries.{Path}
use Rattle.acpi_conditions.specs.declared.statuses.Presence.{Presence}
use Rattle.acpi_conditions.specs.declared.statuses.Presence.TheVariants.{Nothing}
use Rattle.acpi_conditions.specs.declared.slots.Sight.{Sight}
use Rattle.acpi_conditions.specs.declared.slots.Slot.{Slot}

-- the entries at a path, in their order, and what is certain there
pub record Here : Type 0 where
  pub sights : List Sight
  pub certain : Presence

abbrev pub nothing_here : Here
nothing_here = record { sights = []; certain = Nothing }

abbrev pub with_sight : Sight → Here → Here
with_sight x h = record h { sights = h.sights ++ x ∷ [] }

abbrev pub with_certain : Presence → Here → Here
with_certain c h = record h { certain = c }

abbrev pub here_of : Option Slot → Here
here_of None = nothing_here
here_of (Some s) = record { sights = s.sights.items; certain = s.certain }

-- the slot of a path, by the numbers of the paths
abbrev pub slot_of : PathMap ℕ → List Slot → Path → Option Slot
slot_of numbers slots p = option_and_then (λ n. slice_get slots n) (get numbers p)

abbrev pub kept_at : PathMap ℕ → List Slot → Path → Here
kept_at numbers slots p = here_of (slot_of numbers slots p)

-- what is kept at the paths, with a change at one of them
abbrev pub kept_over : Path → (Here → Here) → (Path → Here) → Path → Here
kept_over p change kept q = cond (is_same_path q p) (change (kept p)) (kept q)

-- ---- the paths of the slots

-- by number
abbrev pub paths_of : List Slot → List Path
paths_of slots = map (λ s. s.path) slots

abbrev pub path_in : List Path → ℕ → Path
path_in paths n = slice_index_or paths n []

abbrev pub HasMore : List Path → List Path → Type 0
HasMore paths new = (more : List Path) × (new ≡ paths ++ more)

-- each path has the number of its slot, and each slot has a path
pub record IsNumbered (numbers : PathMap ℕ) (paths : List Path) : Type 0 where
  pub slot : (p : Path) (n : ℕ) → get numbers p ≡ Some n → slice_get paths n ≡ Some p
  pub number : (p : Path) (n : ℕ) → slice_get paths n ≡ Some p → get numbers p ≡ Some n
