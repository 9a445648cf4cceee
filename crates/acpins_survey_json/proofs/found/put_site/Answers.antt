use Rattle.std.proofs.Common.{◌∙◌, codes}
use Rattle.acpins_survey_json.proofs.JsonPutting.{weaker}
use Rattle.acpins_survey_json.specs.Json.{member}
use Rattle.acpins_survey_json.specs.JsonValues.{number_value}
use Rattle.acpins_survey_json.proofs.found.put_site.Goals as goal

pub returns : goal.returns
returns c =
    weaker (λ last ms. last ms
    ∙ c.put_number_member.ensures (member (codes "offset") (number_value c.args.site.offset) ms))
    c.put_number_member-2.ensures
