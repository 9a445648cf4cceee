use Rattle.acpins_survey_json.specs.JsonValues.{path_value}
use Rattle.acpins_survey_json.proofs.JsonPutting.{member_said}
use Rattle.acpins_survey_json.proofs.members.put_path_member.Goals as goal

pub returns : goal.returns
returns c =
    member_said c.args.start.now c.args.name.now (path_value c.args.path.now) c.args.text.now _ _ c.put_member.ensures c.put_path_text.ensures
