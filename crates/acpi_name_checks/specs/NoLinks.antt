-- Names of entries that are declared nowhere (ACPI 6.5, 5.3 and 20.2.5.2).
use Rattle.std.specs.Prelude.{ℕ, cond, List, [], ◌∷◌, slice_get}
use Rattle.std.specs.List.{flat_map}
use Rattle.acpi_name.specs.Names.{NameParts}
use Rattle.acpi_conditions.specs.Entries.{is_empty}
use Rattle.acpi_ranges.specs.EntryParts.{part_declaring}
use Rattle.acpi_entries.specs.EntryLinks.{LinkParts, links_of_part}
use Rattle.acpi_survey.specs.declared.machine_survey.Survey.{Survey}

-- the name of a link that has no candidate
abbrev pub lost_name : LinkParts → List NameParts
lost_name l = cond (is_empty l.paths) (l.name ∷ []) []

abbrev pub names_without : List LinkParts → List NameParts
names_without ls = flat_map lost_name ls

-- of the entry of that number
abbrev pub unlinked_names : Survey → (number : ℕ) → List NameParts
unlinked_names s number = names_without
    (links_of_part s.reading.walk.entries s.reading.sources (slice_get s.reading.walk.entries number)
    (part_declaring s.tables.items s.reading.walk.entries number))
