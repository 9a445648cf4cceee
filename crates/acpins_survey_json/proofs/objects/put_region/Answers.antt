use Rattle.std.proofs.Common.{◌∙◌, codes, length}
use Rattle.acpi_tree.specs.TermView.{term_view}
use Rattle.acpins_survey_json.specs.Json.{member, no_members}
use Rattle.acpins_survey_json.specs.JsonValues.{term_value}
use Rattle.acpins_survey_json.proofs.JsonPutting.{number_said, closed_put}
use Rattle.acpins_survey_json.proofs.objects.put_region.Goals as goal

pub returns : goal.returns
returns c =
    let m2 = member (codes "length") (term_value (term_view c.args.length.now)) no_members in
    let m1 = member (codes "offset") (term_value (term_view c.args.offset.now)) m2 in
    closed_put c.args.text.now _ _ (codes "}") _
    (c.put_value_member-2.ensures no_members
    ∙ c.put_value_member.ensures m2
    ∙ number_said (codes "{") (codes "space") _ (c.args.space) _ _ c.from.ensures c.put_number_member.ensures m1) c.put.ensures
