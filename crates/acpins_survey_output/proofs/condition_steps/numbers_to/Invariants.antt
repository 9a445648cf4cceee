use Rattle.std.proofs.Common.{◌≡◌, ◌-◌, ◌^◌, List, length, map, reverse}
use Rattle.std.specs.List.{flat_map}
use Rattle.acpi_condition_list.specs.ConditionLists.{IsWay}
use Rattle.acpi_condition_list.specs.declared.list.ConditionStep.{ConditionStep}
use Rattle.acpi_condition_list.specs.declared.sources.LiteralSource.{LiteralSource}
use Rattle.acpi_survey.specs.declared.machine_survey.Survey.{Survey}
use Rattle.acpins_survey_output.specs.StepTexts.{step_text}
use Rattle.acpins_survey_output.specs.steps.NumberedTexts.{text_numbered}
use Rattle.acpins_survey_output.proofs.ConditionWays.{IsLeft}
use Rattle.acpins_survey_output.proofs.condition_steps.numbers_to.Given as goal

abbrev pub invariant-loop-rest : goal.invariant-loop-rest
invariant-loop-rest l = (s : Survey) (steps : List ConditionStep) (from : List LiteralSource)
    → l.literals ≡ map (step_text s) steps → IsWay steps l.fn.last from
    → IsLeft s steps from l.rest (flat_map (text_numbered l.literals) (reverse l.numbers.items))

-- numbers take memory, which is bounded
abbrev pub decreases-loop-rest : goal.decreases-loop-rest
decreases-loop-rest l = 2 ^ 64 - length l.numbers.items
