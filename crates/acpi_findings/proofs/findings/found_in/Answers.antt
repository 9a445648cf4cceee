use Rattle.std.proofs.Common.{◌≡◌, ◌∙◌, List, ap, map}
use Rattle.acpi_conditions.proofs.Basics.{if_ok_map}
use Rattle.acpi_survey.specs.declared.machine_survey.SurveyedTable.{SurveyedTable}
use Rattle.acpi_findings.specs.Findings.{notes_in, problems_in}
use Rattle.acpi_findings.specs.ProblemViews.{problem_view}
use Rattle.acpi_findings.proofs.Finding.{problems_are, notes_are}
use Rattle.acpi_findings.proofs.findings.found_in.Goals as goal

pub returns-clause-problems : goal.returns-clause-problems
returns-clause-problems c =
    let x = c.in_ok-index.index in
    let s = c.args.survey.now in
    if_ok_map c.found_by.result _ (λ f. map problem_view f.problems.items ≡ problems_in s.reading s.tables.items)
    (λ f e. e ∙ problems_are x s.reading c.deref.result.now c.in_ok-index.ensures.paths c.in_ok-index.ensures.refused
    ∙ ap (λ (ts : List SurveyedTable). problems_in s.reading ts) c.deref.ensures.value) c.found_by.ensures.problems

pub returns-clause-notes : goal.returns-clause-notes
returns-clause-notes c =
    let x = c.in_ok-index.index in
    let s = c.args.survey.now in
    if_ok_map c.found_by.result _ (λ f. f.notes.items ≡ notes_in s.reading s.tables.items)
    (λ f e. e ∙ notes_are x s.reading c.deref.result.now c.in_ok-index.ensures.paths c.in_ok-index.ensures.unknown
    ∙ ap (λ (ts : List SurveyedTable). notes_in s.reading ts) c.deref.ensures.value) c.found_by.ensures.notes
