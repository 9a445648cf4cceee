use Rattle.std.proofs.Common.{◌∙◌, codes, length}
use Rattle.acpins_survey_json.specs.Json.{member, no_members}
use Rattle.acpins_survey_json.specs.JsonValues.{number_value}
use Rattle.acpins_survey_json.proofs.JsonPutting.{number_said, closed_put}
use Rattle.acpins_survey_json.proofs.objects.put_processor.Goals as goal

pub returns : goal.returns
returns c =
    let m2 = member (codes "length") (number_value (c.args.length)) no_members in
    let m1 = member (codes "block") (number_value (c.args.block)) m2 in
    closed_put c.args.text.now _ _ (codes "}") _
    (number_said (codes ",") (codes "length") _ (c.args.length) _ _ c.from-3.ensures c.put_number_member-3.ensures no_members
    ∙ number_said (codes ",") (codes "block") _ (c.args.block) _ _ c.from-2.ensures c.put_number_member-2.ensures m2
    ∙ number_said (codes "{") (codes "id") _ (c.args.id) _ _ c.from.ensures c.put_number_member.ensures m1) c.put.ensures
