use Rattle.std.proofs.Common.{◌∙◌, ◌++◌, ap, append_assoc, codes}
use Rattle.acpins_survey_json.specs.Json.{member, more_members_text, no_members}
use Rattle.acpins_survey_json.specs.JsonBodies.{opaque_value}
use Rattle.acpins_survey_json.proofs.JsonPutting.{closed_put, member_said}
use Rattle.acpins_survey_json.proofs.bodies.put_unread.Goals as goal

pub returns : goal.returns
returns c =
    let end = member (codes "opaque") (opaque_value c.args.code.now c.args.reason c.args.place c.args.name.now) no_members in
    let statements = codes ",\"statements\":null" in
    closed_put c.args.text.now _ _ (codes "}") _
    (member_said (codes ",") (codes "opaque") (opaque_value c.args.code.now c.args.reason c.args.place c.args.name.now) _ _ _ c.put_member.ensures c.put_opaque.ensures no_members
    ∙ ap (λ t. t ++ more_members_text end) c.put.ensures
    ∙ append_assoc c.args.text.now statements (more_members_text end)) c.put-2.ensures
