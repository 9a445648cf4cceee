use Rattle.std.proofs.Common.{◌∙◌, codes}
use Rattle.acpins_survey_json.specs.Json.{member}
use Rattle.acpins_survey_json.specs.JsonObjects.{fields_value}
use Rattle.acpi_objects.specs.Views.{kind_view}
use Rattle.acpins_survey_json.proofs.JsonPutting.{weaker, member_said, word_said}
use Rattle.acpins_survey_json.proofs.objects.put_object.Goals as goal

pub returns : goal.returns
returns c =
    let o = kind_view c.args.kind.now in
    weaker (λ last ms. member_said (codes ",") (codes "fields") (fields_value o) _ _ _ c.put_member.ensures last ms
    ∙ word_said (codes ",") (codes "kind") _ _ _ _ c.kind_word.ensures c.put_word_member.ensures (member (codes "fields") (fields_value o) ms))
    c.put_fields.ensures
