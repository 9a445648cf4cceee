use Rattle.std.proofs.Common.{refl}
use Rattle.acpins_survey_output.specs.Shown.{shown_lines}
use Rattle.acpins_survey_reasons.specs.Numbered.{IsBodyAt}
use Rattle.acpins_survey_reasons.proofs.Zipping.{zip_more}
use Rattle.acpins_survey_output.proofs.showing.put_all_shown.Goals as goal

pub loop-number-preserved : goal.loop-number-preserved
loop-number-preserved c = λ o.
    let s = c.args.survey.now in
    zip_more (IsBodyAt s) (shown_lines s c.args.path.now) c.args.numbers.now c.loop-number.number-index _ _ c.args.text.now c.loop-number.text _
    c.loop-number-test.true (c.loop-number.invariant o) (c.in_ok-put_shown.ensures o) refl
