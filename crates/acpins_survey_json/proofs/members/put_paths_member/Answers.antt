use Rattle.acpins_survey_json.specs.JsonValues.{paths_value}
use Rattle.acpins_survey_json.proofs.JsonPutting.{member_said}
use Rattle.acpins_survey_json.proofs.members.put_paths_member.Goals as goal

pub returns : goal.returns
returns c =
    member_said c.args.start.now c.args.name.now (paths_value c.args.paths.now) c.args.text.now _ _ c.put_member.ensures c.put_path_texts.ensures
