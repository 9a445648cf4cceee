-- Stops, and the ways past them, as the code keeps them (ACPI 6.5, 19.6).
use Rattle.std.specs.Prelude.{◌≡◌, ◌<◌, ◌++◌, ℕ, Bool, List, length, take, drop, map}
use Rattle.std.specs.List.{filter}
use Rattle.acpi_conditions.specs.Entries.{Turn, past, StopAt}
use Rattle.acpi_conditions.specs.Survey.{leaves_table}
use Rattle.acpi_conditions.specs.Turns.{stop_of}
use Rattle.acpi_conditions.specs.declared.turns.Way.{Way}
use Rattle.acpi_conditions.specs.declared.stops.StopAt.{StopAt as StopAtForm}

abbrev pub stop_at_of : StopAtForm → StopAt
stop_at_of s = record { place = s.place; kind = stop_of s.kind }

abbrev pub is_return : StopAtForm → Bool
is_return s = leaves_table (stop_of s.kind)

-- the turns past them
abbrev pub pasts : List StopAtForm → List Turn
pasts xs = map (λ s. past s.place) xs

-- so many stops, and of those behind them the Returns
abbrev pub returns_from : ℕ → List StopAtForm → List StopAtForm
returns_from n xs = take n xs ++ filter is_return (drop n xs)

-- the way's number is one of the ways'
abbrev pub IsWayOf : List (List Turn) → Way → Type 0
IsWayOf ways way = way.number < length ways

abbrev pub Grows : List (List Turn) → List (List Turn) → Type 0
Grows ways new = (more : List (List Turn)) × (new ≡ ways ++ more)
