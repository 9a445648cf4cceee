-- What the reading of tables gave, by place (ACPI 6.5, 5.3).
use Rattle.std.specs.Prelude.{ℕ, List, [], ◌++◌, map, Option, unwrap_or}
use Rattle.acpi_name.specs.Names.{NameParts}
use Rattle.acpi_conditions.specs.Entries.{Path, Why}
use Rattle.acpi_survey.specs.Reading.{Reading}
use Rattle.acpi_survey.specs.Survey.{place_in}
use Rattle.acpi_ranges.specs.Places.{last_at}
use Rattle.acpi_ranges.specs.Ranges.{Entered}

-- the paths of entries and of the targets of Scopes, with their places. At a place of a table stands one at most;
-- predefined objects have the place 0, and come first.
abbrev pub entered_pairs : Reading → List (ℕ × Path)
entered_pairs s = map (λ e. (e.term.place, e.path)) s.walk.entries ++ s.opened

abbrev pub refused_pairs : Reading → List (ℕ × Why)
refused_pairs s = map (λ r. (r.place, r.why)) s.walk.refused

-- the reason for which what begins at a place, among the bytes of all tables, is refused
abbrev pub Refusals : Type 0
Refusals = ℕ → Option Why

-- the called names of which nothing was known in what begins at a place, among the bytes of all tables
abbrev pub Unknowns : Type 0
Unknowns = ℕ → List NameParts

abbrev pub entered_in : Reading → (number : ℕ) → Entered
entered_in s number place = last_at (entered_pairs s) (place_in number place)

abbrev pub refusals_in : Reading → Refusals
refusals_in s place = last_at (refused_pairs s) place

abbrev pub unknowns_in : Reading → Unknowns
unknowns_in s place = unwrap_or (last_at s.unknown place) []
