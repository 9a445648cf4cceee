use Rattle.std.specs.Option.{option_map}
use Rattle.acpi_entries.specs.ConditionViews.{placed_view}
use Rattle.acpins_survey_output.proofs.ConditionWays.{step_said}
use Rattle.acpins_survey_output.proofs.condition_steps.step_text.Goals as goal

pub returns : goal.returns
returns c = λ o.
    step_said c.args.survey.now c.args.step (option_map placed_view c.in_ok-literal.literal) c.new-text.result c.put_some_literal.new.text
    c.new-text.ensures c.put_some_literal.ensures (c.in_ok-literal.ensures o.tile)
