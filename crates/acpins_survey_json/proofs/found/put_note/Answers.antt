use Rattle.std.proofs.Common.{◌∙◌, refl, None, []}
use Rattle.acpins_survey_json.specs.Json.{more_members_text}
use Rattle.acpins_survey_json.specs.JsonFound.{rest_members, site_members}
use Rattle.acpins_survey_json.proofs.JsonReasons.{reason_said}
use Rattle.acpins_survey_json.proofs.JsonPutting.{closed_put}
use Rattle.acpins_survey_json.proofs.found.put_note.Goals as goal

pub returns : goal.returns
returns c =
    let rest = rest_members None c.args.note.now.scope in
    let reason = reason_said _ _ [] [] _ _ _ _ c.note_name.ensures refl c.noted_name-name.ensures c.put_reason.ensures in
    closed_put c.args.text.now _ _ (more_members_text rest) _
    (c.put_site.ensures rest ∙ reason (site_members c.args.note.now.site rest)) c.put_rest.ensures
