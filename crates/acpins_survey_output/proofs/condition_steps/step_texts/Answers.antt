use Rattle.std.proofs.Common.{◌∙◌, ap, map, take_all}
use Rattle.acpins_survey_output.specs.StepTexts.{step_text}
use Rattle.acpins_survey_output.proofs.Lines.{mapped_more}
use Rattle.acpins_survey_output.proofs.condition_steps.step_texts.Goals as goal

pub loop-step-preserved : goal.loop-step-preserved
loop-step-preserved c = λ o.
    mapped_more (step_text c.args.survey.now) c.args.steps.now c.loop-step.step-index _ c.in_ok-step_text.field-0 c.loop-step.literals.items c.push.new.self.items
    c.loop-step-test.true (c.in_ok-step_text.ensures o) (c.loop-step.invariant o) c.in_ok-push.ensures.items

pub returns : goal.returns
returns c = λ o.
    c.loop-step.invariant o ∙ ap (map (step_text c.args.survey.now)) (take_all c.loop-step.step-index c.args.steps.now c.loop-step-test.false)
