use Rattle.std.proofs.Common.{◌∙◌, ◌%◌, ◌/◌, codes, nat_eq}
use Rattle.acpins_survey_json.specs.Json.{boolean, member, no_members}
use Rattle.acpins_survey_json.specs.JsonValues.{number_value}
use Rattle.acpins_survey_json.proofs.JsonPutting.{number_said, closed_put}
use Rattle.acpins_survey_json.proofs.objects.put_method.Goals as goal

pub returns : goal.returns
returns c =
    let m2 = member (codes "sync_level") (number_value (c.args.flags / 16)) no_members in
    let m1 = member (codes "serialized") (boolean (nat_eq (c.args.flags / 8 % 2) 1)) m2 in
    closed_put c.args.text.now _ _ (codes "}") _
    (number_said (codes ",") (codes "sync_level") _ (c.args.flags / 16) _ _ c.from-2.ensures c.put_number_member-2.ensures no_members
    ∙ c.put_boolean_member.ensures m2
    ∙ number_said (codes "{") (codes "arguments") _ (c.args.flags % 8) _ _ c.from.ensures c.put_number_member.ensures m1) c.put.ensures
