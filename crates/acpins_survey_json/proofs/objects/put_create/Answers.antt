use Rattle.std.proofs.Common.{◌∙◌, codes}
use Rattle.acpi_tree.specs.TermView.{term_view}
use Rattle.acpins_survey_json.proofs.JsonPutting.{weaker}
use Rattle.acpins_survey_json.specs.Json.{member}
use Rattle.acpins_survey_json.specs.JsonValues.{term_value}
use Rattle.acpins_survey_json.proofs.objects.put_create.Goals as goal

pub returns : goal.returns
returns c =
    weaker (λ last ms. last ms
    ∙ c.put_some_value_member.ensures (member (codes "index") (term_value (term_view c.args.index.now)) ms))
    c.put_value_member.ensures
