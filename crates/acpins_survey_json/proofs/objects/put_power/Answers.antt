use Rattle.std.proofs.Common.{◌∙◌, codes}
use Rattle.acpins_survey_json.specs.Json.{member, no_members}
use Rattle.acpins_survey_json.specs.JsonValues.{number_value}
use Rattle.acpins_survey_json.proofs.JsonPutting.{number_said, closed_put}
use Rattle.acpins_survey_json.proofs.objects.put_power.Goals as goal

pub returns : goal.returns
returns c =
    let m1 = member (codes "order") (number_value (c.args.order)) no_members in
    closed_put c.args.text.now _ _ (codes "}") _
    (number_said (codes ",") (codes "order") _ (c.args.order) _ _ c.from-2.ensures c.put_number_member-2.ensures no_members
    ∙ number_said (codes "{") (codes "level") _ (c.args.level) _ _ c.from.ensures c.put_number_member.ensures m1) c.put.ensures
