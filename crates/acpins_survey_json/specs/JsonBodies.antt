-- Bodies of methods as values of JSON (ACPI 6.5, 20.2.5).
use Rattle.std.specs.Prelude.{ℕ, nat_eq, if◌then◌else◌, List, [], ◌∷◌, ◌++◌, length, Option, Some, None, codes, unwrap_or}
use Rattle.acpi_tree.specs.TermView.{terms_tree}
use Rattle.acpi_text.specs.Constants.{hex_digits, separated}
use Rattle.acpi_text.specs.Terms.{statements_text}
use Rattle.acpi_values.specs.declared.fault.BodyReason.{BodyReason}
use Rattle.acpi_name.specs.Names.{NameParts}
use Rattle.acpi_conditions.specs.Entries.{Path}
use Rattle.acpi_ranges.specs.Sites.{site_of}
use Rattle.acpi_entries.specs.declared.body.BodyReading.{BodyReading}
use Rattle.acpi_entries.specs.declared.body.BodyReading.TheVariants.{Terms, Opaque}
use Rattle.acpi_entries.specs.declared.body.MethodBody.{MethodBody}
use Rattle.acpi_survey.specs.declared.machine_survey.Survey.{Survey}
use Rattle.acpi_ranges.specs.declared.sites.Site.{Site}
use Rattle.acpins_survey_json.specs.Json.{Value, null, string, array, object, Members, no_members, member, values_of}
use Rattle.acpins_survey_json.specs.JsonEntries.{place_of}
use Rattle.acpins_survey_json.specs.JsonFound.{site_members}
use Rattle.acpins_survey_json.specs.JsonValues.{number_value, path_value}
use Rattle.acpins_survey_reasons.specs.Reasons.{body_fault_text}

-- the lines of a text, each with an end; those behind the beginning of one
abbrev pub lines_from : (line : List ℕ) → List ℕ → List (List ℕ)
lines_from line [] = []
lines_from line (c ∷ cs) =
    if nat_eq c 10 then line ∷ lines_from [] cs else lines_from (line ++ c ∷ []) cs

abbrev pub lines_value : List ℕ → Value
lines_value text = array (values_of string (lines_from [] text))

-- why and where a code isn't read, and its bytes
abbrev pub opaque_value : List ℕ → BodyReason → (place : ℕ) → Option NameParts → Value
opaque_value code reason place name =
    object (member (codes "reason") (string (body_fault_text reason name))
    (member (codes "at") (number_value place)
    (member (codes "bytes") (string (separated (codes " ") (hex_digits 2) code)) no_members)))

abbrev pub reading_members : List ℕ → BodyReading → Members
reading_members code (Terms ts) = member (codes "statements")
    (lines_value (statements_text [] (terms_tree ts.items)))
    (member (codes "opaque") null no_members)
reading_members code (Opaque reason place name) = member (codes "statements") null
    (member (codes "opaque") (opaque_value code reason place name) no_members)

-- where the term of the entry of that number stands
abbrev pub number_site : Survey → ℕ → Site
number_site s n = site_of (unwrap_or (place_of s n) 0)

abbrev pub body_value : Survey → Path × ℕ → MethodBody → Value
body_value s x b =
    object (member (codes "path") (path_value x.0)
    (site_members (number_site s x.1) (member (codes "code_offset") (number_value b.offset)
    (member (codes "code_length") (number_value (length b.code.now))
    (reading_members b.code.now b.reading)))))

-- the body of an entry; an entry that is no method of a table has none
abbrev pub body_values : Survey → Path × ℕ → Option MethodBody → List Value
body_values s x None = []
body_values s x (Some b) = body_value s x b ∷ []
