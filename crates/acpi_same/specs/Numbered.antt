-- What stands at the number of an entry (ACPI 6.5, 5.3).
use Rattle.std.specs.Prelude.{ℕ, List, [], Option, slice_get, unwrap_or}
use Rattle.std.specs.Option.{option_map}
use Rattle.acpi_conditions.specs.Entries.{Entry}
use Rattle.acpi_entries.specs.Condition.{condition, PlacedParts}
use Rattle.acpi_entries.specs.EntryLinks.{LinkParts, links_of_part}
use Rattle.acpi_ranges.specs.EntryParts.{part_declaring}
use Rattle.acpi_ranges.specs.Lookup.{Found}
use Rattle.acpi_survey.specs.declared.machine_survey.Survey.{Survey}

abbrev pub entries_of : Survey → List Entry
entries_of s = s.reading.walk.entries

abbrev pub part_at : Survey → ℕ → Option Found
part_at s n = part_declaring s.tables.items (entries_of s) n

abbrev pub links_at : Survey → ℕ → List LinkParts
links_at s n =
    links_of_part (entries_of s) s.reading.sources (slice_get (entries_of s) n) (part_at s n)

abbrev pub condition_at : Survey → ℕ → List PlacedParts
condition_at s n = unwrap_or
    (option_map (condition s.tables.items s.reading.opened (entries_of s))
    (slice_get (entries_of s) n)) []
