-- Which entries decide the tests of what is seen from an entry (ACPI 6.5, 20.2.5.2).
use Rattle.std.specs.Prelude.{◌≡◌, ◌&&◌, ◌||◌, Bool, false, not, List, Option, Some, None, map}
use Rattle.acpi_conditions.specs.Entries.{Turn, is_empty, Entry}
use Rattle.acpi_conditions.specs.Links.{are_exclusive, is_part_of}
use Rattle.acpi_conditions.specs.Turns.{turn_of, way_of}
use Rattle.acpi_conditions.specs.EntryForms.{entry_view}
use Rattle.acpi_conditions.specs.Views.{View, WayView}
use Rattle.acpi_conditions.specs.declared.entry.Entry.{Entry as EntryForm}
use Rattle.acpi_conditions.specs.declared.seen.Test.{Test}
use Rattle.acpi_conditions.specs.declared.seen.Test.TheVariants.{Certain, CertainScope, Possible, PossibleScope}
use Rattle.acpi_conditions.specs.declared.seen.Seen.TheInside.{Inside}
use Rattle.acpi_conditions.specs.declared.seen_along.SeenAlong.TheInside.{Inside as AlongInside}

-- what the entry settles is certain where control came by the way
abbrev pub is_settled : List Turn → Entry → Bool
is_settled way e = not (e.asks.has || not (is_empty e.asks.needs)) && is_part_of e.way way

-- the entry makes the test hold at its path
abbrev pub passes : Test → List Turn → Entry → Bool
passes Certain way e = is_settled way e
passes CertainScope way e = is_settled way e && (e.term.is_scope && not e.asks.no)
passes Possible way e = not (are_exclusive e.way way)
passes PossibleScope way e = not (are_exclusive e.way way) && e.term.is_scope

-- there is an entry, and it passes
abbrev pub passes_if : Test → List (List Turn) → List Turn → Option EntryForm → Bool
passes_if test ways way None = false
passes_if test ways way (Some e) = passes test way (entry_view ways e)

abbrev pub view_of : Inside → View
view_of s =
    record {
      entries = map (entry_view s.ways.now) s.paths.now.entries;
      entry = entry_view s.ways.now s.entry.now;
    }

-- the turns are those of the entry's way
abbrev pub HasWay : Inside → Type 0
HasWay s = map turn_of s.turns.items ≡ way_of s.ways.now s.entry.now.way

abbrev pub way_view_of : AlongInside → WayView
way_view_of s =
    record {
      entries = map (entry_view s.ways.now) s.paths.now.entries;
      way = map turn_of s.turns.now;
    }
