use Rattle.std.proofs.Common.{◌∙◌, codes}
use Rattle.std.specs.Option.{option_map}
use Rattle.acpins_survey_json.proofs.JsonPutting.{weaker}
use Rattle.acpins_survey_json.specs.Json.{member}
use Rattle.acpins_survey_json.specs.JsonValues.{name_value, paths_value, value_or_null}
use Rattle.acpins_survey_json.proofs.found.put_reason.Goals as goal

pub returns : goal.returns
returns c =
    weaker (λ last ms. last ms
    ∙ c.put_paths_member.ensures (member (codes "name") (value_or_null name_value (option_map (λ n. n.now) c.args.name)) ms)
    ∙ c.put_word_member.ensures (member (codes "paths") (paths_value c.args.paths.now) ((member (codes "name") (value_or_null name_value (option_map (λ n. n.now) c.args.name)) ms))))
    c.put_some_name_member.ensures
