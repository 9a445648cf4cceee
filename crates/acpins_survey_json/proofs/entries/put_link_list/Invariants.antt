use Rattle.std.proofs.Common.{◌≡◌, ◌++◌, drop}
use Rattle.acpi_entries.specs.ConditionViews.{link_view}
use Rattle.acpins_survey_json.specs.JsonEntries.{link_value}
use Rattle.acpins_survey_json.specs.Json.{values_behind, values_of, values_text}
use Rattle.acpins_survey_json.proofs.entries.put_link_list.Given as goal

-- the elements so far and those that are left
abbrev pub invariant-loop-link : goal.invariant-loop-link
invariant-loop-link l =
    l.text ++ values_behind l.is_first (values_of (λ x. link_value (link_view x)) (drop l.link-index l.links)) ≡ l.initial.text ++ values_text (values_of (λ x. link_value (link_view x)) l.links)
