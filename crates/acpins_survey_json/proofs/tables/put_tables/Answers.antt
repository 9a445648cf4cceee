use Rattle.std.proofs.Common.{◌≡◌, ◌∙◌, ◌++◌, ◌+◌, ◌∷◌, ℕ, List, ap, arith, drop, sym}
use Rattle.std.proofs.lemmas.List.{drop_all, drop_more}
use Rattle.acpi_survey.specs.declared.machine_survey.SurveyedTable.{SurveyedTable}
use Rattle.acpins_survey_json.specs.Json.{lines_behind, value_text}
use Rattle.acpins_survey_json.specs.JsonTables.{table_value, table_values}
use Rattle.acpins_survey_json.proofs.JsonPutting.{line_put, lines_put}
use Rattle.acpins_survey_json.proofs.tables.put_tables.Goals as goal

pub loop-number-preserved : goal.loop-number-preserved
loop-number-preserved c =
    let l = c.loop-number in
    let ts = c.args.tables.now in
    let t = c.index-tables-number.result in
    let here : drop l.number ts ≡ t ∷ drop (l.number + 1) ts =
    drop_more ts l.number t (grind arith) ∙ ap (λ (t : SurveyedTable). t ∷ drop (l.number + 1) ts) (sym c.index-tables-number.is) in
    line_put l.is_first (table_value l.number t.bytes) (table_values (l.number + 1) (drop (l.number + 1) ts)) l.text _ _ c.put_line_start.ensures
    (c.put_table.ensures ∙ ap (λ (bs : List ℕ). c.put_line_start.new.text ++ value_text (table_value l.number bs)) c.deref.ensures
    ∙ ap (λ (t : SurveyedTable). c.put_line_start.new.text ++ value_text (table_value l.number t.bytes)) (sym c.index-tables-number.is))
    ∙ ap (λ (us : List SurveyedTable). l.text ++ lines_behind l.is_first (table_values l.number us)) (sym here)
    ∙ l.invariant

pub returns : goal.returns
returns c =
    let l = c.loop-number in
    let ts = c.args.tables.now in
    lines_put (table_values 0 ts) (table_values l.number (drop l.number ts)) l.is_first c.args.text.now c.put.new.self l.text _
    (ap (λ (us : List SurveyedTable). table_values l.number us) (drop_all l.number ts (grind arith))) c.put.ensures l.invariant c.put_lines_end.ensures
