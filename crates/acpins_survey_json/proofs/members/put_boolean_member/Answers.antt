use Rattle.acpins_survey_json.specs.Json.{boolean}
use Rattle.acpins_survey_json.proofs.JsonPutting.{member_said}
use Rattle.acpins_survey_json.proofs.members.put_boolean_member.Goals as goal

pub returns : goal.returns
returns c =
    member_said c.args.start.now c.args.name.now (boolean c.args.is_true) c.args.text.now _ _ c.put_member.ensures c.put_boolean.ensures
