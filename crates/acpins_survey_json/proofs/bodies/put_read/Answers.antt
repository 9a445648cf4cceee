use Rattle.std.proofs.Common.{[], codes}
use Rattle.acpi_text.specs.Terms.{statements_text}
use Rattle.acpi_tree.specs.TermView.{terms_tree}
use Rattle.acpins_survey_json.specs.Json.{member, more_members_text, no_members, null}
use Rattle.acpins_survey_json.specs.JsonBodies.{lines_value}
use Rattle.acpins_survey_json.proofs.JsonPutting.{closed_put, member_said}
use Rattle.acpins_survey_json.proofs.bodies.put_read.Goals as goal

pub returns : goal.returns
returns c =
    let end = member (codes "opaque") null no_members in
    closed_put c.args.text.now _ _ (more_members_text end) _
    (member_said (codes ",") (codes "statements") (lines_value (statements_text [] (terms_tree c.args.terms.now))) _ _ _ c.put_member.ensures c.in_ok-put_statements.ensures end)
    c.put.ensures
