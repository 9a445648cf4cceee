use Rattle.std.proofs.Common.{◌≡◌, ◌∙◌, ◌+◌, ◌∷◌, drop, map, sym, ap, arith}
use Rattle.std.proofs.lemmas.List.{drop_more}
use Rattle.acpi_findings.specs.ProblemViews.{problem_view}
use Rattle.acpi_ranges.specs.steps.Indexes.{index_entered, index_refusals, index_unknowns}
use Rattle.acpi_survey.specs.declared.machine_survey.SurveyedTable.{SurveyedTable}
use Rattle.acpi_findings.proofs.Finding.{problems_next, notes_next, problems_all, notes_all}
use Rattle.acpi_findings.proofs.findings.found_by.Goals as goal

pub each-preserved : goal.each-preserved
each-preserved c =
    let l = c.each in
    let x = c.args.index.now in
    let ts = c.args.tables.now in
    let t = c.index-tables-number.result in
    let here : drop l.number ts ≡ t ∷ drop (l.number + 1) ts =
    drop_more ts l.number t (grind arith) ∙ ap (λ (t : SurveyedTable). t ∷ drop (l.number + 1) ts) (sym c.index-tables-number.is) in (
      problems_next (index_entered x) (index_refusals x) l.number t _ _ (map problem_view l.found.problems.items) _ _ here c.in_ok-put_table.ensures.problems l.invariant.0,
      notes_next (index_entered x) (index_unknowns x) l.number t _ _ l.found.notes.items _ _ here c.in_ok-put_table.ensures.notes l.invariant.1,
    )

pub returns-clause-problems : goal.returns-clause-problems
returns-clause-problems c =
    let l = c.each in
    let x = c.args.index.now in
    problems_all (index_entered x) (index_refusals x) l.number c.args.tables.now _ _ (grind arith) l.invariant.0

pub returns-clause-notes : goal.returns-clause-notes
returns-clause-notes c =
    let l = c.each in
    let x = c.args.index.now in
    notes_all (index_entered x) (index_unknowns x) l.number c.args.tables.now _ _ (grind arith) l.invariant.1
