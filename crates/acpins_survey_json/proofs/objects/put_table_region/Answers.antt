use Rattle.std.proofs.Common.{◌∙◌, codes}
use Rattle.acpi_tree.specs.TermView.{term_view}
use Rattle.acpins_survey_json.specs.Json.{member, no_members}
use Rattle.acpins_survey_json.specs.JsonValues.{term_value}
use Rattle.acpins_survey_json.proofs.JsonPutting.{closed_put}
use Rattle.acpins_survey_json.proofs.objects.put_table_region.Goals as goal

pub returns : goal.returns
returns c =
    let m2 = member (codes "oem_table_id") (term_value (term_view c.args.oem_table_id.now)) no_members in
    let m1 = member (codes "oem_id") (term_value (term_view c.args.oem_id.now)) m2 in
    closed_put c.args.text.now _ _ (codes "}") _
    (c.put_value_member-3.ensures no_members
    ∙ c.put_value_member-2.ensures m2
    ∙ c.put_value_member.ensures m1) c.put.ensures
