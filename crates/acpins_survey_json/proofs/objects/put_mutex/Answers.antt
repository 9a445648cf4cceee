use Rattle.std.proofs.Common.{codes}
use Rattle.acpins_survey_json.specs.Json.{no_members}
use Rattle.acpins_survey_json.proofs.JsonPutting.{number_said, closed_put}
use Rattle.acpins_survey_json.proofs.objects.put_mutex.Goals as goal

pub returns : goal.returns
returns c =
    closed_put c.args.text.now _ _ (codes "}") _
    (number_said (codes "{") (codes "flags") _ (c.args.flags) _ _ c.from.ensures c.put_number_member.ensures no_members) c.put.ensures
