use Rattle.std.proofs.Common.{◌≡◌, ◌++◌, true, drop}
use Rattle.acpi_survey.specs.SurveyOrder.{IsInOrder}
use Rattle.acpins_survey_json.specs.Json.{lines_behind, values_of}
use Rattle.acpins_survey_json.specs.JsonConditions.{step_value}
use Rattle.acpins_survey_json.proofs.conditions.put_conditions.Given as goal

-- the elements so far and those that are left
abbrev pub invariant-loop-step : goal.invariant-loop-step
invariant-loop-step l = IsInOrder l.survey
    → l.text ++ lines_behind l.is_first (values_of (step_value l.survey) (drop l.step-index l.steps))
    ≡ l.initial.text ++ lines_behind true (values_of (step_value l.survey) l.steps)
