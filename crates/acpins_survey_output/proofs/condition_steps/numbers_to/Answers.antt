use Rattle.std.proofs.Common.{◌∙◌, ap}
use Rattle.std.specs.List.{flat_map}
use Rattle.acpins_survey_output.specs.steps.NumberedTexts.{text_numbered}
use Rattle.acpins_survey_output.proofs.ConditionWays.{all_taken, none_taken, number_taken}
use Rattle.acpins_survey_output.proofs.condition_steps.numbers_to.Goals as goal

pub loop-rest-init : goal.loop-rest-init
loop-rest-init c = λ s steps from same way.
    none_taken s steps from c.args.literals.now c.args.last c.new-numbers.result.items c.new-numbers.ensures.items way

pub loop-rest-preserved : goal.loop-rest-preserved
loop-rest-preserved c = λ s steps from same way.
    number_taken s steps from c.args.literals.now c.loop-rest.rest c.before-rest.result c.in-Some.number c.loop-rest.numbers.items c.push.new.self.items
    same c.in-Some.is c.before-rest.ensures c.in_ok-push.ensures.items (c.loop-rest.invariant s steps from same way)

pub returns : goal.returns
returns c = λ s steps from same way.
    ap (flat_map (text_numbered c.args.literals.now)) c.reverse.ensures.items
    ∙ all_taken s steps from c.loop-rest.rest _ c.in_default.is (c.loop-rest.invariant s steps from same way)
