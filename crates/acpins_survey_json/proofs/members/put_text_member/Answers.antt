use Rattle.acpins_survey_json.specs.Json.{string}
use Rattle.acpins_survey_json.proofs.JsonPutting.{member_said}
use Rattle.acpins_survey_json.proofs.members.put_text_member.Goals as goal

pub returns : goal.returns
returns c = member_said c.args.start.now c.args.name.now (string c.args.characters.now) c.args.text.now _ _ c.put_member.ensures c.put_text.ensures
