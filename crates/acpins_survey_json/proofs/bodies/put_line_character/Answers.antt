use Rattle.std.proofs.Common.{◌∙◌, ◌++◌, ℕ, List, ap}
use Rattle.acpins_survey_json.specs.Json.{string, value_text}
use Rattle.acpins_survey_json.proofs.JsonLines.{line_ended, line_grown}
use Rattle.acpins_survey_json.proofs.bodies.put_line_character.Goals as goal

pub returns-then-character-ne10 : goal.returns-then-character-ne10
returns-then-character-ne10 c = λ cs.
    line_grown c.args.character c.args.is_first c.args.line.now _ c.args.text.now cs c.if-character-ne10.true c.put_one.ensures

pub returns : goal.returns
returns c = λ cs.
    line_ended c.args.character c.args.is_first c.args.line.now _ c.args.text.now _ _ cs c.if-character-ne10.false c.clear.ensures c.put_element_start.ensures
    c.put_form.ensures
