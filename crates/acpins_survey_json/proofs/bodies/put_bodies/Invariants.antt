use Rattle.std.proofs.Common.{map, take}
use Rattle.acpi_survey.specs.SurveyOrder.{IsInOrder}
use Rattle.acpins_survey_json.specs.JsonBodies.{body_values}
use Rattle.acpi_conditions.specs.ByPath.{lent_pair}
use Rattle.acpins_survey_reasons.specs.Numbered.{IsBodyAt}
use Rattle.acpins_survey_json.proofs.ZippedLines.{AreLinesOf}
use Rattle.acpins_survey_json.proofs.bodies.put_bodies.Given as goal

abbrev pub invariant-loop-numbered : goal.invariant-loop-numbered
invariant-loop-numbered l = IsInOrder l.survey
    → AreLinesOf (λ x b. IsBodyAt l.survey x.1 b) (body_values l.survey) (take l.numbered-index (map lent_pair l.order)) l.is_first l.initial.text l.text
