use Rattle.std.proofs.Common.{◌≡◌, ◌++◌, Some, drop, map, flat_map}
use Rattle.acpi_conditions.specs.Turns.{turn_of}
use Rattle.acpi_entries.specs.Condition.{turn_literals}
use Rattle.acpi_survey.specs.SurveyOrder.{IsInOrder}
use Rattle.acpi_condition_list.specs.ConditionLists.{source_literal}
use Rattle.acpi_condition_list.proofs.list.sources_of.Given as goal

abbrev pub invariant-each : goal.invariant-each
invariant-each l = IsInOrder l.survey → map (source_literal l.survey) l.sources.items
    ++ map (λ x. Some x) (flat_map (turn_literals l.survey.tables.items l.survey.reading.opened l.survey.reading.walk.entries) (map turn_of (drop l.turn-index l.turn-items)))
    ≡ map (λ x. Some x) (flat_map (turn_literals l.survey.tables.items l.survey.reading.opened l.survey.reading.walk.entries) (map turn_of l.turn-items))
