use Rattle.std.proofs.Common.{◌∙◌, ◌++◌, ap, codes}
use Rattle.std.specs.List.{flat_map}
use Rattle.acpi_text.specs.Constants.{char_text}
use Rattle.acpins_survey_json.proofs.JsonPutting.{word_said}
use Rattle.acpins_survey_json.proofs.tables.put_label.Goals as goal

pub returns : goal.returns
returns c =
    let form = c.put_characters.ensures ∙ ap (λ t. t ++ flat_map char_text c.without_end.result.now) c.new-form.ensures
    ∙ ap (λ bs. flat_map char_text bs) c.without_end.ensures in
    word_said (codes ",") c.args.name.now _ _ _ _ form c.put_form_member.ensures
