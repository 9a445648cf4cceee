use Rattle.std.proofs.Common.{◌∙◌, codes}
use Rattle.acpins_survey_json.proofs.JsonPutting.{weaker}
use Rattle.acpins_survey_json.specs.Json.{member}
use Rattle.acpins_survey_json.specs.JsonValues.{name_value}
use Rattle.acpins_survey_json.proofs.conditions.put_needs.Goals as goal

pub returns : goal.returns
returns c =
    weaker (λ last ms. last ms
    ∙ c.put_word_member.ensures (member (codes "name") (name_value c.args.name.now) ms))
    c.put_name_member.ensures
