use Rattle.std.proofs.Common.{◌∙◌, ◌++◌, ap, codes}
use Rattle.acpi_text.specs.Constants.{hex_digits, separated}
use Rattle.acpins_survey_json.proofs.JsonPutting.{word_said}
use Rattle.acpins_survey_json.proofs.bodies.put_bytes_member.Goals as goal

pub returns : goal.returns
returns c =
    let form = c.put_spaced.ensures ∙ ap (λ t. t ++ separated (codes " ") (hex_digits 2) c.args.code.now) c.new-form.ensures in
    word_said (codes ",") (codes "bytes") _ _ _ _ form c.put_form_member.ensures
