use Rattle.std.proofs.Common.{◌≡◌, ◌∙◌, ◌+◌, ◌∷◌, drop, sym, ap, arith}
use Rattle.std.proofs.lemmas.List.{drop_more}
use Rattle.acpi_ranges.specs.steps.Indexes.{index_entered, index_refusals}
use Rattle.acpi_survey.specs.declared.machine_survey.SurveyedTable.{SurveyedTable}
use Rattle.acpins_survey_output.proofs.Mapping.{table_more, tables_all}
use Rattle.acpins_survey_output.proofs.ranges.put_tables.Goals as goal

pub loop-number-preserved : goal.loop-number-preserved
loop-number-preserved c =
    let l = c.loop-number in
    let x = c.args.index.now in
    let ts = c.args.tables.now in
    let t = c.index-tables-number.result in
    let here : drop l.number ts ≡ t ∷ drop (l.number + 1) ts =
    drop_more ts l.number t (grind arith) ∙ ap (λ (t : SurveyedTable). t ∷ drop (l.number + 1) ts) (sym c.index-tables-number.is) in
    table_more (index_entered x) (index_refusals x) l.number t _ _ l.text _ _ here c.in_ok-put_table.ensures l.invariant

pub returns : goal.returns
returns c =
    let x = c.args.index.now in
    tables_all (index_entered x) (index_refusals x) c.loop-number.number c.args.tables.now c.loop-number.text _ (grind arith) c.loop-number.invariant
