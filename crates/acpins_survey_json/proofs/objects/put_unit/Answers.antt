use Rattle.std.proofs.Common.{◌∙◌, codes}
use Rattle.acpins_survey_json.specs.Json.{member}
use Rattle.acpins_survey_json.specs.JsonValues.{number_value}
use Rattle.acpins_survey_json.proofs.JsonPutting.{weaker, number_said}
use Rattle.acpins_survey_json.proofs.objects.put_unit.Goals as goal

pub returns : goal.returns
returns c =
    weaker (λ last ms. number_said (codes ",") (codes "flags") _ c.args.flags _ _ c.from-2.ensures last ms
    ∙ number_said (codes ",") (codes "bits") _ (c.args.bits) _ _ c.from.ensures c.put_number_member-2.ensures (member (codes "flags") (number_value c.args.flags) ms)
    ∙ c.put_number_member.ensures (member (codes "bits") (number_value (c.args.bits)) ((member (codes "flags") (number_value c.args.flags) ms))))
    c.put_number_member-3.ensures
