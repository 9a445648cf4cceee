use Rattle.std.proofs.Common.{◌≡◌, map, take}
use Rattle.acpi_survey.specs.SurveyOrder.{IsInOrder}
use Rattle.acpins_survey_output.specs.StepTexts.{step_text}
use Rattle.acpins_survey_output.proofs.condition_steps.step_texts.Given as goal

abbrev pub invariant-loop-step : goal.invariant-loop-step
invariant-loop-step l = IsInOrder l.survey → l.literals.items ≡ map (step_text l.survey) (take l.step-index l.steps)
