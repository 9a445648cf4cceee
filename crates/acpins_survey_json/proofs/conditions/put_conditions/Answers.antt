use Rattle.std.proofs.Common.{refl}
use Rattle.acpins_survey_json.specs.JsonConditions.{step_value}
use Rattle.acpins_survey_json.proofs.JsonPutting.{line_more, lines_all}
use Rattle.acpins_survey_json.proofs.conditions.put_conditions.Goals as goal

pub loop-step-preserved : goal.loop-step-preserved
loop-step-preserved c = λ o.
    line_more (step_value c.args.survey.now) c.args.steps.now c.loop-step.step-index _ _ c.loop-step.is_first
    c.loop-step.text c.put_line_start.new.text _ _ c.loop-step-test.true refl c.put_line_start.ensures
    (c.in_ok-put_step.ensures o) (c.loop-step.invariant o)

pub returns : goal.returns
returns c = λ o.
    lines_all (step_value c.args.survey.now) c.args.steps.now c.loop-step.step-index c.loop-step.is_first c.args.text.now
    c.put.new.self c.loop-step.text _ c.loop-step-test.false c.put.ensures (c.loop-step.invariant o) c.put_lines_end.ensures
