use Rattle.std.proofs.Common.{◌∙◌, codes}
use Rattle.acpins_survey_json.specs.Json.{member, no_members}
use Rattle.acpins_survey_json.specs.JsonValues.{path_value, value_or_null}
use Rattle.acpins_survey_json.proofs.JsonPutting.{closed_put}
use Rattle.acpins_survey_json.proofs.found.put_rest.Goals as goal

pub returns : goal.returns
returns c =
    let m1 = member (codes "scope") (value_or_null path_value c.args.scope.now) no_members in
    closed_put c.args.text.now _ _ (codes "}") _
    (c.put_some_path_member.ensures no_members
    ∙ c.put_lost_member.ensures m1) c.put.ensures
