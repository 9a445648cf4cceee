use Rattle.std.proofs.Common.{◌∙◌, codes}
use Rattle.acpins_survey_json.proofs.JsonPutting.{weaker}
use Rattle.acpins_survey_json.specs.Json.{member}
use Rattle.acpins_survey_json.specs.JsonValues.{path_value}
use Rattle.acpins_survey_json.proofs.conditions.put_pathed.Goals as goal

pub returns : goal.returns
returns c =
    weaker (λ last ms. last ms
    ∙ c.put_word_member.ensures (member (codes "path") (path_value c.args.path.now) ms))
    c.put_path_member.ensures
