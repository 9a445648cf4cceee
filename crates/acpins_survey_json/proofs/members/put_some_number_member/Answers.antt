use Rattle.acpins_survey_json.specs.JsonValues.{number_value, value_or_null}
use Rattle.acpins_survey_json.proofs.JsonPutting.{member_said}
use Rattle.acpins_survey_json.proofs.members.put_some_number_member.Goals as goal

pub returns : goal.returns
returns c =
    member_said c.args.start.now c.args.name.now (value_or_null number_value c.args.n) c.args.text.now _ _ c.put_member.ensures c.put_some_number.ensures
