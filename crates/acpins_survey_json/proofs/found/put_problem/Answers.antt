use Rattle.std.proofs.Common.{◌∙◌}
use Rattle.acpins_survey_json.specs.Json.{more_members_text}
use Rattle.acpins_survey_json.specs.JsonFound.{rest_members, site_members}
use Rattle.acpins_survey_json.proofs.JsonReasons.{reason_said}
use Rattle.acpins_survey_json.proofs.JsonPutting.{closed_put}
use Rattle.acpins_survey_json.proofs.found.put_problem.Goals as goal

pub returns : goal.returns
returns c =
    let rest = rest_members c.args.problem.now.lost c.args.problem.now.scope in
    let reason = reason_said _ _ _ _ _ _ _ _ c.problem_name.ensures c.problem_paths.ensures c.as_ref-name.ensures.value c.put_reason.ensures in
    closed_put c.args.text.now _ _ (more_members_text rest) _
    (c.put_site.ensures rest ∙ reason (site_members c.args.problem.now.site rest)) c.put_rest.ensures
