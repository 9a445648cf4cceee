-- Which of the entries so far control may have met on its way to a place in a table (ACPI 6.5, 5.3 and 20.2.5): those
-- whose way isn't exclusive with its own. Nothing else is possible, in the body of a While either.
use Rattle.std.specs.Prelude.{◌&&◌, ℕ, suc, Bool, false, cond, not, List, [], ◌∷◌}
use Rattle.std.specs.List.{filter}
use Rattle.acpi_space.specs.Lookups.{is_same_path}
use Rattle.acpi_conditions.specs.Entries.{Path, Turn, Entry}
use Rattle.acpi_conditions.specs.Known.{Certain, Known}
use Rattle.acpi_conditions.specs.Links.{are_exclusive}

-- the entries so far, what is certain, and the way that control comes by
pub record Meeting : Type 0 where
  pub entries : List Entry
  pub certain : List Certain
  pub way : List Turn

-- control that comes by the way may have met the entry
abbrev pub may_be_met : List Turn → Entry → Bool
may_be_met way e = not (are_exclusive e.way way)

abbrev pub met_by : Meeting → Known
met_by m =
    record { entries = filter (may_be_met m.way) m.entries; certain = m.certain; in_loop = false }

-- the numbers of the entries at the path that may be met, of those from a number on
abbrev pub numbers_beyond : List Turn → Path → ℕ → List Entry → List ℕ
numbers_beyond way p n [] = []
numbers_beyond way p n (e ∷ es) = cond (is_same_path e.path p && may_be_met way e)
    (n ∷ numbers_beyond way p (suc n) es) (numbers_beyond way p (suc n) es)

abbrev pub numbers_met : Meeting → Path → List ℕ
numbers_met m p = numbers_beyond m.way p 0 m.entries
