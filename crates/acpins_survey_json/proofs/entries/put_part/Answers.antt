use Rattle.std.proofs.Common.{◌∙◌, ◌-◌, ap, codes, subst}
use Rattle.acpi_ranges.specs.Sites.{byte_at, site_of}
use Rattle.acpi_ranges.specs.declared.sites.Site.{Site}
use Rattle.acpins_survey_json.specs.Json.{member, no_members}
use Rattle.acpins_survey_json.specs.JsonEntries.{end_of}
use Rattle.acpins_survey_json.specs.JsonFound.{site_members}
use Rattle.acpins_survey_json.specs.JsonValues.{number_value}
use Rattle.acpins_survey_json.specs.steps.JsonPuts.{PutsMembers}
use Rattle.acpins_survey_json.proofs.JsonPlaces.{end_known}
use Rattle.acpins_survey_json.proofs.JsonPutting.{closed_put, number_said}
use Rattle.acpins_survey_json.proofs.entries.put_part.Goals as goal

pub returns : goal.returns
returns c = λ found is.
    let place = c.args.place in
    let part = c.args.part.now in
    let length = end_of found - byte_at place in
    let m1 = member (codes "length") (number_value length) no_members in
    let said = subst (λ (s : Site). PutsMembers (site_members s) c.args.text.now c.put_site.new.text) c.site_of.ensures c.put_site.ensures in
    closed_put c.args.text.now _ _ (codes "}") _
    (number_said (codes ",") (codes "length") _ length _ _ (c.saturating_sub-length.ensures ∙ ap (λ k. k - byte_at place) (end_known part.to part.what found is))
    c.put_number_member.ensures no_members ∙ said m1) c.put.ensures
