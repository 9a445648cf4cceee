use Rattle.std.proofs.Common.{codes}
use Rattle.acpins_survey_json.specs.Json.{no_members}
use Rattle.acpins_survey_json.proofs.JsonPutting.{closed_put}
use Rattle.acpins_survey_json.proofs.objects.put_name.Goals as goal

pub returns : goal.returns
returns c =
    closed_put c.args.text.now _ _ (codes "}") _
    (c.put_some_value_member.ensures no_members) c.put.ensures
