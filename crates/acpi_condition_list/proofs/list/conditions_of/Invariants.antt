use Rattle.std.proofs.Common.{◌≡◌, map, take}
use Rattle.std.specs.List.{All}
use Rattle.acpi_conditions.specs.ByPath.{lent_pair}
use Rattle.acpi_survey.specs.SurveyOrder.{IsInOrder}
use Rattle.acpi_condition_list.specs.ConditionLists.{IsCondition, condition_numbered, conditioned_view, numbered_pair}
use Rattle.acpi_condition_list.proofs.list.conditions_of.Given as goal

abbrev pub invariant-each : goal.invariant-each
invariant-each l = record {
  entries : map numbered_pair (map conditioned_view l.entries.items) ≡ map lent_pair (take l.numbered-index l.order);
  conditions : IsInOrder l.survey → All (λ e. IsCondition l.survey l.list.steps.items e.condition (condition_numbered l.survey e.number)) l.entries.items;
}
