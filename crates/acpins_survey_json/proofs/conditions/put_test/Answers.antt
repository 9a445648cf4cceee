use Rattle.std.proofs.Common.{◌∙◌, codes}
use Rattle.std.specs.Option.{option_map}
use Rattle.acpi_tree.specs.TermView.{term_view}
use Rattle.acpins_survey_json.proofs.JsonPutting.{weaker}
use Rattle.acpins_survey_json.specs.Json.{member}
use Rattle.acpins_survey_json.specs.JsonValues.{printed_term, value_or_null}
use Rattle.acpins_survey_json.proofs.conditions.put_test.Goals as goal

pub returns : goal.returns
returns c =
    weaker (λ last ms. last ms
    ∙ c.put_word_member.ensures (member (codes "test") (value_or_null printed_term (option_map (λ t. term_view t.now) c.args.test)) ms))
    c.put_some_term_member.ensures
