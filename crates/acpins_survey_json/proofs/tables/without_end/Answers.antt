use Rattle.std.proofs.Common.{◌-◌, get_or, length, refl}
use Rattle.acpins_survey_json.proofs.JsonLabels.{other_kept, zero_dropped}
use Rattle.acpins_survey_json.proofs.tables.without_end.Goals as goal

pub loop-rest-preserved : goal.loop-rest-preserved
loop-rest-preserved c =
    let rest = c.loop-rest.rest.now in
    zero_dropped rest c.args.bytes.now (get_or rest (length rest - 1) 0) c.in-len1-up.len_at_least refl c.if-last-ne0.false c.loop-rest.invariant

pub returns-then-last-ne0 : goal.returns-then-last-ne0
returns-then-last-ne0 c =
    let rest = c.loop-rest.rest.now in
    other_kept rest c.args.bytes.now (get_or rest (length rest - 1) 0) c.in-len1-up.len_at_least refl c.if-last-ne0.true c.loop-rest.invariant
