use Rattle.std.proofs.Common.{◌≡◌, ◌∙◌, ◌++◌, [], ◌∷◌, ◌+◌, ℕ, List, ap, append_assoc, codes, drop, get_or, sym}
use Rattle.std.proofs.lemmas.List.{drop_all, drop_more}
use Rattle.acpins_survey_json.specs.Json.{string, values_behind, values_of, values_text}
use Rattle.acpins_survey_json.specs.JsonBodies.{lines_from}
use Rattle.acpins_survey_json.proofs.JsonPutting.{end_said}
use Rattle.acpins_survey_json.proofs.bodies.put_lines.Goals as goal

pub loop-character-preserved : goal.loop-character-preserved
loop-character-preserved c =
    let l = c.loop-character in
    let cs = c.args.lines.now in
    let i = l.character-index in
    c.put_line_character-is_first.ensures (drop (i + 1) cs)
    ∙ ap (λ (xs : List ℕ). l.text ++ values_behind l.is_first (values_of string (lines_from l.line xs))) (sym (drop_more cs i 0 c.loop-character-test.true))
    ∙ l.invariant

pub returns : goal.returns
returns c =
    let l = c.loop-character in
    let cs = c.args.lines.now in
    let all = values_text (values_of string (lines_from [] cs)) in
    let none = ap (λ (xs : List ℕ). l.text ++ values_behind l.is_first (values_of string (lines_from l.line xs))) (drop_all l.character-index cs c.loop-character-test.false)
    ∙ ap (λ t. l.text ++ t) (end_said l.is_first) in
    c.put-2.ensures ∙ sym none ∙ l.invariant ∙ ap (λ t. t ++ all) c.put.ensures ∙ append_assoc c.args.text.now (codes "[") all
