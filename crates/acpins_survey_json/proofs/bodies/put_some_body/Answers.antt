use Rattle.std.proofs.Common.{◌∙◌, ◌++◌, Option, ap, sym}
use Rattle.acpi_entries.specs.declared.body.MethodBody.{MethodBody}
use Rattle.acpins_survey_json.specs.Json.{elements, lines_behind}
use Rattle.acpins_survey_json.specs.JsonBodies.{body_value, body_values}
use Rattle.acpi_conditions.specs.ByPath.{lent_pair}
use Rattle.acpins_survey_json.proofs.JsonPutting.{line_put}
use Rattle.acpins_survey_json.proofs.bodies.put_some_body.Goals as goal

pub returns-in_ok-put_body-in-Some : goal.returns-in_ok-put_body-in-Some
returns-in_ok-put_body-in-Some c = λ vs.
    let s = c.args.survey.now in
    let x = lent_pair c.args.numbered in
    line_put c.args.is_first (body_value s x c.in-Some.body) (elements vs) c.args.text.now _ _ c.put_line_start.ensures c.in_ok-put_body-in-Some.ensures
    ∙ ap (λ (o : Option MethodBody). c.args.text.now ++ lines_behind c.args.is_first (elements (body_values s x o ++ vs))) (sym c.in-Some.is)
