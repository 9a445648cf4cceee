use Rattle.std.proofs.Common.{◌≡◌, ◌++◌, List, map, take}
use Rattle.std.specs.List.{All, flat_map}
use Rattle.acpi_condition_list.specs.ConditionLists.{IsCondition, condition_numbered}
use Rattle.acpi_condition_list.specs.declared.list.ConditionStep.{ConditionStep}
use Rattle.acpi_survey.specs.SurveyOrder.{IsInOrder}
use Rattle.acpins_survey_output.specs.Listings.{numbered_line}
use Rattle.acpins_survey_output.specs.StepTexts.{step_text}
use Rattle.acpins_survey_output.proofs.listing.put_entries.Given as goal

abbrev pub invariant-loop-entry : goal.invariant-loop-entry
invariant-loop-entry l = (steps : List ConditionStep) → IsInOrder l.survey → l.literals ≡ map (step_text l.survey) steps
    → All (λ e. IsCondition l.survey steps e.condition (condition_numbered l.survey e.number)) l.entries
    → l.text ≡ l.initial.text ++ flat_map (λ e. numbered_line l.survey e.path.now e.number) (take l.entry-index l.entries)
