use Rattle.std.proofs.Common.{take}
use Rattle.acpi_survey.specs.SurveyOrder.{IsInOrder}
use Rattle.acpins_survey_output.specs.Shown.{shown_lines}
use Rattle.acpins_survey_reasons.specs.Numbered.{IsBodyAt}
use Rattle.acpins_survey_reasons.proofs.Zipping.{AreZipped}
use Rattle.acpins_survey_output.proofs.showing.put_all_shown.Given as goal

abbrev pub invariant-loop-number : goal.invariant-loop-number
invariant-loop-number l = IsInOrder l.survey
    → AreZipped (IsBodyAt l.survey) (shown_lines l.survey l.path) (take l.number-index l.numbers) l.initial.text l.text
