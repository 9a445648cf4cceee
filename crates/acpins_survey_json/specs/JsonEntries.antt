-- Entries as values of JSON (ACPI 6.5, 5.3).
use Rattle.std.specs.Prelude.{ℕ, ◌-◌, Option, Some, None, codes, slice_get}
use Rattle.std.specs.Option.{option_map}
use Rattle.acpi_conditions.specs.Entries.{Entry}
use Rattle.acpi_condition_list.specs.ConditionLists.{Conditioned}
use Rattle.acpi_entries.specs.EntryLinks.{LinkParts}
use Rattle.acpi_ranges.specs.Sites.{byte_at, site_of}
use Rattle.acpi_ranges.specs.Lookup.{Found, node_found, element_found}
use Rattle.acpi_survey.specs.declared.machine_survey.Survey.{Survey}
use Rattle.acpi_objects.specs.Declaring.{object_of}
use Rattle.acpins_survey_json.specs.Json.{Value, null, boolean, array, object, Members, no_members, member, values_of}
use Rattle.acpins_survey_json.specs.JsonFound.{site_members}
use Rattle.acpins_survey_json.specs.JsonObjects.{kind_members}
use Rattle.acpins_survey_json.specs.JsonValues.{name_value, number_value, path_value, paths_value, value_or_null}
use Rattle.acpins_survey_reasons.specs.Numbered.{entries_of, links_of, part_of}

abbrev pub link_value : LinkParts → Value
link_value l =
    object (member (codes "name") (name_value l.name)
    (member (codes "candidates") (paths_value l.paths)
    (member (codes "certain") (boolean l.is_certain) no_members)))

-- ---- entries

abbrev pub end_of : Found → ℕ
end_of (node_found to n) = to
end_of (element_found to f offset e) = to

-- where the term of an entry stands, and how many bytes it has; null of what is there before all tables
abbrev pub term_members : Option Found → Option ℕ → Members
term_members (Some part) (Some place) = site_members (site_of place)
    (member (codes "length") (number_value (end_of part - byte_at place)) no_members)
term_members _ place = member (codes "table") null
    (member (codes "offset") null (member (codes "length") null no_members))

abbrev pub place_of : Survey → ℕ → Option ℕ
place_of s n = option_map (λ (e : Entry). e.term.place) (slice_get (entries_of s) n)

-- an entry, and the number of the last literal of its condition
abbrev pub entry_value : Survey → Conditioned → Value
entry_value s e =
    object (member (codes "path") (path_value e.path)
    (kind_members (object_of (part_of s e.number) e.number)
    (member (codes "links") (array (values_of link_value (links_of s e.number)))
    (member (codes "condition") (value_or_null number_value e.condition)
    (term_members (part_of s e.number) (place_of s e.number))))))
