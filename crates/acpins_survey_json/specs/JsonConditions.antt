-- Conditions as values of JSON (ACPI 6.5, 5.3 and 19.6).
use Rattle.std.specs.Prelude.{ℕ, List, Option, codes}
use Rattle.acpi_tree.specs.Terms.{TermTree}
use Rattle.acpi_entries.specs.Condition.{LiteralParts, if_taken, if_missed, while_taken, stop_missed, has, free, needs, PlacedParts}
use Rattle.acpi_survey.specs.declared.machine_survey.Survey.{Survey}
use Rattle.acpi_condition_list.specs.ConditionLists.{source_literal}
use Rattle.acpi_condition_list.specs.declared.list.ConditionStep.{ConditionStep}
use Rattle.acpins_survey_json.specs.Json.{Value, string, object, Members, no_members, member}
use Rattle.acpins_survey_json.specs.JsonFound.{site_members}
use Rattle.acpins_survey_json.specs.JsonValues.{name_value, number_value, path_value, printed_term, value_or_null}

-- a literal and a predicate, which may be lost
abbrev pub test_members : (literal : List ℕ) → Option TermTree → Members → Members
test_members literal test ms = member (codes "literal") (string literal)
    (member (codes "test") (value_or_null printed_term test) ms)

abbrev pub named_members : (literal name : List ℕ) → Value → Members → Members
named_members literal name v ms = member (codes "literal") (string literal) (member name v ms)

abbrev pub literal_members : LiteralParts → Members → Members
literal_members (if_taken test) ms = test_members (codes "if") test ms
literal_members (if_missed test) ms = test_members (codes "not") test ms
literal_members (while_taken test) ms = test_members (codes "while") test ms
literal_members stop_missed ms = member (codes "literal") (string (codes "past")) ms
literal_members (has p) ms = named_members (codes "has") (codes "path") (path_value p) ms
literal_members (free p) ms = named_members (codes "no") (codes "path") (path_value p) ms
literal_members (needs n) ms = named_members (codes "needs") (codes "name") (name_value n) ms

-- a literal behind the one of a number
abbrev pub literal_value : (before : Option ℕ) → PlacedParts → Value
literal_value before l = object (member (codes "before") (value_or_null number_value before)
    (literal_members l.literal (site_members l.site no_members)))

abbrev pub step_value : Survey → ConditionStep → Value
step_value s x = value_or_null (literal_value x.before) (source_literal s x.source)
