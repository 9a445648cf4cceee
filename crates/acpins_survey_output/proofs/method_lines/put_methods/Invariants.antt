use Rattle.std.proofs.Common.{map, take}
use Rattle.acpi_survey.specs.SurveyOrder.{IsInOrder}
use Rattle.acpi_conditions.specs.ByPath.{lent_pair}
use Rattle.acpins_survey_output.specs.Shown.{verdict_line}
use Rattle.acpins_survey_reasons.specs.Numbered.{IsBodyAt}
use Rattle.acpins_survey_reasons.proofs.Zipping.{AreZipped}
use Rattle.acpins_survey_output.proofs.method_lines.put_methods.Given as goal

abbrev pub invariant-loop-numbered : goal.invariant-loop-numbered
invariant-loop-numbered l = IsInOrder l.survey
    → AreZipped (λ x b. IsBodyAt l.survey x.1 b) verdict_line (take l.numbered-index (map lent_pair l.order)) l.initial.text l.text
