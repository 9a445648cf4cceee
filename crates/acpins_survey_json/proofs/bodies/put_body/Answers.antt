use Rattle.std.proofs.Common.{◌∙◌, codes, length, subst}
use Rattle.std.proofs.lemmas.Result.{on_ok_weaker}
use Rattle.acpi_ranges.specs.declared.sites.Site.{Site}
use Rattle.acpins_survey_json.specs.Json.{member, more_members_text}
use Rattle.acpins_survey_json.specs.JsonBodies.{number_site, reading_members}
use Rattle.acpins_survey_json.specs.JsonFound.{site_members}
use Rattle.acpins_survey_json.specs.JsonValues.{number_value}
use Rattle.acpins_survey_json.specs.steps.JsonPuts.{PutsMembers}
use Rattle.acpins_survey_json.proofs.JsonPutting.{closed_put, number_said}
use Rattle.acpins_survey_json.proofs.bodies.put_body.Goals as goal

pub returns : goal.returns
returns c =
    let b = c.args.body.now in
    let site = number_site c.args.survey.now c.args.numbered.1 in
    let m3 = reading_members b.code.now b.reading in
    let m2 = member (codes "code_length") (number_value (length b.code.now)) m3 in
    let m1 = member (codes "code_offset") (number_value b.offset) m2 in
    let said = subst (λ (s : Site). PutsMembers (site_members s) c.put_path_member.new.text c.put_site.new.text) c.site_at.ensures c.put_site.ensures in
    on_ok_weaker c.put_reading.result (closed_put c.args.text.now _ _ (more_members_text m3) _
    (c.put_number_member-2.ensures m3 ∙ c.put_number_member.ensures m2 ∙ said m1 ∙ c.put_path_member.ensures (site_members site m1))) c.put_reading.ensures
