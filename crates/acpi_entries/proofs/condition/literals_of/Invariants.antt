use Rattle.std.proofs.Common.{◌≡◌, ◌++◌, map, drop, flat_map}
use Rattle.acpi_conditions.specs.Turns.{turn_of}
use Rattle.acpi_entries.specs.Condition.{turn_literals}
use Rattle.acpi_entries.specs.ConditionViews.{placed_views}
use Rattle.acpi_survey.specs.SurveyOrder.{IsInOrder}
use Rattle.acpi_entries.proofs.condition.literals_of.Given as goal

abbrev pub invariant-each : goal.invariant-each
invariant-each l = IsInOrder l.survey → placed_views l.literals.items ++ flat_map (turn_literals l.survey.tables.items l.survey.reading.opened l.survey.reading.walk.entries) (map turn_of (drop l.turn-index l.turns))
    ≡ flat_map (turn_literals l.survey.tables.items l.survey.reading.opened l.survey.reading.walk.entries) (map turn_of l.turns)
