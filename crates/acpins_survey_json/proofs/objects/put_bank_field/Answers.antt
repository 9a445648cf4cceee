use Rattle.std.proofs.Common.{◌∙◌, codes}
use Rattle.acpi_tree.specs.TermView.{term_view}
use Rattle.acpins_survey_json.specs.Json.{member, no_members}
use Rattle.acpins_survey_json.specs.JsonValues.{term_value}
use Rattle.acpins_survey_json.proofs.JsonPutting.{closed_put}
use Rattle.acpins_survey_json.proofs.objects.put_bank_field.Goals as goal

pub returns : goal.returns
returns c =
    let m1 = member (codes "value") (term_value (term_view c.args.value.now)) no_members in
    closed_put c.args.text.now _ _ (codes "}") _
    (c.put_value_member.ensures no_members
    ∙ c.put_unit.ensures m1) c.put.ensures
