use Rattle.std.proofs.Common.{◌∙◌, ◌++◌, ap, codes}
use Rattle.acpins_survey_reasons.specs.Reasons.{body_fault_text}
use Rattle.acpins_survey_json.proofs.JsonPutting.{word_said}
use Rattle.acpins_survey_json.proofs.bodies.put_reason_member.Goals as goal

pub returns : goal.returns
returns c =
    let form = c.put_body_reason.ensures ∙ ap (λ t. t ++ body_fault_text c.args.reason c.args.name.now) c.new-form.ensures in
    word_said (codes "{") (codes "reason") _ _ _ _ form c.put_form_member.ensures
