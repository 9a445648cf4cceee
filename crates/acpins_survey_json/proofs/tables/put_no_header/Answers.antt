use Rattle.std.proofs.Common.{◌∙◌, ◌++◌, ap, append_assoc}
use Rattle.acpins_survey_json.proofs.JsonPutting.{weaker}
use Rattle.acpins_survey_json.specs.Json.{more_members_text}
use Rattle.acpins_survey_json.proofs.tables.put_no_header.Goals as goal

pub returns : goal.returns
returns c =
    weaker (λ last ms. ap (λ t. t ++ more_members_text ms) last ∙ append_assoc c.args.text.now _ (more_members_text ms)) c.put.ensures
