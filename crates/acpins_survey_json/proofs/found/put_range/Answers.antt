use Rattle.std.proofs.Common.{◌∙◌, codes}
use Rattle.acpins_survey_json.specs.Json.{member, no_members}
use Rattle.acpins_survey_json.specs.JsonValues.{number_value}
use Rattle.acpins_survey_json.proofs.JsonPutting.{closed_put}
use Rattle.acpins_survey_json.proofs.found.put_range.Goals as goal

pub returns : goal.returns
returns c =
    let m1 = member (codes "to") (number_value c.args.range.to) no_members in
    closed_put c.args.text.now _ _ (codes "}") _
    (c.put_number_member-2.ensures no_members
    ∙ c.put_number_member.ensures m1) c.put.ensures
