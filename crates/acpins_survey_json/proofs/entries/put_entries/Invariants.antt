use Rattle.std.proofs.Common.{◌≡◌, ◌++◌, true, drop}
use Rattle.acpi_condition_list.specs.ConditionLists.{conditioned_view}
use Rattle.acpi_survey.specs.SurveyOrder.{IsInOrder}
use Rattle.acpins_survey_json.specs.Json.{lines_behind, values_of}
use Rattle.acpins_survey_json.specs.JsonEntries.{entry_value}
use Rattle.acpins_survey_json.proofs.entries.put_entries.Given as goal

-- the elements so far and those that are left
abbrev pub invariant-loop-entry : goal.invariant-loop-entry
invariant-loop-entry l = IsInOrder l.survey
    → l.text ++ lines_behind l.is_first (values_of (λ e. entry_value l.survey (conditioned_view e)) (drop l.entry-index l.entries))
    ≡ l.initial.text ++ lines_behind true (values_of (λ e. entry_value l.survey (conditioned_view e)) l.entries)
