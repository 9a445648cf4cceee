use Rattle.std.proofs.Common.{◌≡◌, ◌++◌, take, codes}
use Rattle.std.specs.List.{flat_map}
use Rattle.acpi_entries.specs.ConditionViews.{placed_view}
use Rattle.acpins_survey_output.specs.Conditions.{literal_text}
use Rattle.acpins_survey_output.proofs.condition.put_condition.Given as goal

abbrev pub invariant-loop-literal : goal.invariant-loop-literal
invariant-loop-literal l = l.text ≡ l.initial.text ++ flat_map (λ y. codes " " ++ literal_text (placed_view y)) (take l.literal-index l.condition)
