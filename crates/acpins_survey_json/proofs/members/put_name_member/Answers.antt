use Rattle.acpins_survey_json.specs.JsonValues.{name_value}
use Rattle.acpins_survey_json.proofs.JsonPutting.{member_said}
use Rattle.acpins_survey_json.proofs.members.put_name_member.Goals as goal

pub returns : goal.returns
returns c =
    member_said c.args.start.now c.args.name.now (name_value c.args.name_of.now) c.args.text.now _ _ c.put_member.ensures c.put_name_text.ensures
