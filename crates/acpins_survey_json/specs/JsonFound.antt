-- Problems and notes as values of JSON.
use Rattle.std.specs.Prelude.{ℕ, List, [], Option, Some, None, codes}
use Rattle.acpi_name.specs.Names.{NameParts, Segment}
use Rattle.acpi_ranges.specs.declared.sites.Site.{Site}
use Rattle.acpi_ranges.specs.declared.lost_ranges.LostRange.{LostRange}
use Rattle.acpi_findings.specs.declared.problems.Problem.{Problem}
use Rattle.acpi_findings.specs.declared.notes.Note.{Note}
use Rattle.acpins_survey_json.specs.Json.{Value, string, object, Members, no_members, member}
use Rattle.acpins_survey_json.specs.JsonValues.{name_value, number_value, path_value, paths_value, value_or_null}
use Rattle.acpins_survey_reasons.specs.Reasons.{problem_name, problem_paths, note_name, noted_name}

-- where something stands, before other members
abbrev pub site_members : Site → Members → Members
site_members s ms = member (codes "table") (number_value s.table)
    (member (codes "offset") (number_value s.offset) ms)

abbrev pub range_value : LostRange → Value
range_value r = object
    (member (codes "from") (number_value r.from)
    (member (codes "to") (number_value r.to) no_members))

-- the reason, and the paths and the name that it names, before other members
abbrev pub reason_members : (reason : List ℕ) → List (List Segment) → Option NameParts → Members
    → Members
reason_members reason paths name ms =
    member (codes "reason") (string reason)
    (member (codes "paths") (paths_value paths)
    (member (codes "name") (value_or_null name_value name) ms))

-- the bytes that are lost, and the scope around
abbrev pub rest_members : Option LostRange → Option (List Segment) → Members
rest_members lost scope = member (codes "lost") (value_or_null range_value lost)
    (member (codes "scope") (value_or_null path_value scope) no_members)

abbrev pub problem_value : Problem → Value
problem_value p = object
    (reason_members (problem_name p.reason) (problem_paths p.reason) p.name
    (site_members p.site (rest_members p.lost p.scope)))

abbrev pub note_value : Note → Value
note_value n = object
    (reason_members (note_name n.reason) [] (noted_name n.reason)
    (site_members n.site (rest_members None n.scope)))
