use Rattle.std.proofs.Common.{◌∙◌, ◌++◌, ap, arith}
use Rattle.acpins_survey_json.proofs.JsonPutting.{weaker}
use Rattle.acpins_survey_json.specs.Json.{more_members_text}
use Rattle.acpins_survey_json.proofs.JsonLabels.{front_said}
use Rattle.acpins_survey_json.proofs.tables.put_front.Goals as goal

pub returns : goal.returns
returns c =
    weaker (λ last ms. last ms
    ∙ ap (λ xs. c.args.text.now ++ more_members_text xs) (front_said c.args.bytes.now ms (grind arith))) c.put_header.ensures
