use Rattle.std.proofs.Common.{◌∙◌, ◌++◌, append-nil, ap, not, sym}
use Rattle.acpins_survey_output.proofs.ConditionWays.{condition_put, no_condition}
use Rattle.acpins_survey_output.proofs.condition_steps.put_condition_to.Goals as goal

pub returns-then-is_none : goal.returns-then-is_none
returns-then-is_none c = λ s steps ls same is.
    let old = c.args.text.now in
    sym (append-nil old) ∙ ap (λ t. old ++ t) (sym (no_condition s steps c.args.last ls (c.is_none.ensures ∙ ap not c.if-is_none.true) is))

pub returns : goal.returns
returns c = λ s steps ls same is.
    condition_put s steps c.args.last ls c.args.literals.now c.in_ok-numbers.numbers.items c.deref.result.now c.args.text.now c.put.new.self _
    (c.is_none.ensures ∙ ap not c.if-is_none.false) is (c.in_ok-numbers.ensures s steps is.from same is.way) c.deref.ensures.value c.put.ensures c.put_numbered_literals.ensures
