use Rattle.std.proofs.Common.{codes}
use Rattle.acpins_survey_json.specs.JsonFound.{range_value}
use Rattle.acpins_survey_json.specs.JsonValues.{value_or_null}
use Rattle.acpins_survey_json.proofs.JsonPutting.{member_said}
use Rattle.acpins_survey_json.proofs.found.put_lost_member.Goals as goal

pub returns : goal.returns
returns c =
    member_said (codes ",") (codes "lost") (value_or_null range_value c.args.lost) c.args.text.now _ _ c.put_member.ensures c.put_lost.ensures
