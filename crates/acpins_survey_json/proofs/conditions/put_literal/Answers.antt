use Rattle.std.proofs.Common.{◌∙◌, codes}
use Rattle.acpi_entries.specs.ConditionViews.{literal_view}
use Rattle.acpins_survey_json.specs.Json.{no_members}
use Rattle.acpins_survey_json.specs.JsonConditions.{literal_members}
use Rattle.acpins_survey_json.specs.JsonFound.{site_members}
use Rattle.acpins_survey_json.proofs.JsonPutting.{closed_put}
use Rattle.acpins_survey_json.proofs.conditions.put_literal.Goals as goal

pub returns : goal.returns
returns c =
    let m1 = site_members c.args.placed.now.site no_members in
    let m2 = literal_members (literal_view c.args.placed.now.literal) m1 in
    closed_put c.args.text.now _ _ (codes "}") _
    (c.put_site.ensures no_members
    ∙ c.put_said.ensures m1
    ∙ c.put_some_number_member.ensures m2) c.put.ensures
