-- What stands at the number of an entry (ACPI 6.5, 5.3).
use Rattle.std.specs.Prelude.{ℕ, List, [], ◌∷◌, ◌++◌, Option, slice_get, unwrap_or}
use Rattle.std.specs.Option.{option_map}
use Rattle.acpi_conditions.specs.Entries.{Entry}
use Rattle.acpi_entries.specs.Condition.{condition, PlacedParts}
use Rattle.acpi_entries.specs.EntryBodies.{IsBodyOf}
use Rattle.acpi_entries.specs.EntryLinks.{LinkParts, links_of_part}
use Rattle.acpi_ranges.specs.EntryParts.{part_declaring}
use Rattle.acpi_ranges.specs.Lookup.{Found}
use Rattle.acpi_entries.specs.declared.body.MethodBody.{MethodBody}
use Rattle.acpi_survey.specs.declared.machine_survey.Survey.{Survey}

abbrev pub entries_of : Survey → List Entry
entries_of s = s.reading.walk.entries

abbrev pub part_of : Survey → ℕ → Option Found
part_of s n = part_declaring s.tables.items (entries_of s) n

abbrev pub links_of : Survey → ℕ → List LinkParts
links_of s n =
    links_of_part (entries_of s) s.reading.sources (slice_get (entries_of s) n) (part_of s n)

abbrev pub condition_of : Survey → ℕ → List PlacedParts
condition_of s n = unwrap_or
    (option_map (condition s.tables.items s.reading.opened (entries_of s))
    (slice_get (entries_of s) n)) []

-- the texts of pairs, or other lists, one after another
abbrev pub zip_text : {X Y Z : Type 0} → (X → Y → List Z) → List X → List Y → List Z
zip_text text [] ys = []
zip_text text (x ∷ xs) [] = []
zip_text text (x ∷ xs) (y ∷ ys) = text x y ++ zip_text text xs ys

-- the body of the entry of that number; None where it is no method of a table
abbrev pub IsBodyAt : Survey → ℕ → Option MethodBody → Type 0
IsBodyAt s n b = IsBodyOf (entries_of s) s.reading.counts s.tables.items s.depth n b
