use Rattle.std.proofs.Common.{◌≡◌, ◌∙◌, ℕ, subst, arith, rules}
use Rattle.std.specs.Prelude.{◌↔◌}
use Rattle.acpi_findings.specs.declared.findings.Findings.{Findings}
use Rattle.acpi_survey.specs.Surveys.{IsSurvey}
use Rattle.acpins_survey_words.specs.Words.{Command, listing, showing, using, mapping, telling_bodies, checking, differing, reporting, json, paging}
use Rattle.acpins_survey_texts.specs.Texts.{TellsProblems}
use Rattle.acpins_survey_calls.proofs.survey_text.make_text.Goals.{then-output-eq0, else-output-eq0}
use Rattle.acpins_survey_calls.proofs.survey_text.make_text.Goals as goal

-- a number that is 0 where the status is
faulty_by : (command : Command) (f : Findings) (status faulty : ℕ) → (status ≡ 0) ↔ (faulty ≡ 0) → TellsProblems command f status → TellsProblems command f faulty
faulty_by (checking is_verbose ids) f status faulty same tells = tt
faulty_by (differing is_verbose) f status faulty same tells = tt
faulty_by (listing bodies) f status faulty same tells = (λ e. tells.0 (same.1 e), λ none. same.0 (tells.1 none))
faulty_by (showing word) f status faulty same tells = (λ e. tells.0 (same.1 e), λ none. same.0 (tells.1 none))
faulty_by (using word) f status faulty same tells = (λ e. tells.0 (same.1 e), λ none. same.0 (tells.1 none))
faulty_by mapping f status faulty same tells = (λ e. tells.0 (same.1 e), λ none. same.0 (tells.1 none))
faulty_by telling_bodies f status faulty same tells = (λ e. tells.0 (same.1 e), λ none. same.0 (tells.1 none))
faulty_by (reporting is_verbose) f status faulty same tells = (λ e. tells.0 (same.1 e), λ none. same.0 (tells.1 none))
faulty_by json f status faulty same tells = (λ e. tells.0 (same.1 e), λ none. same.0 (tells.1 none))
faulty_by (paging out) f status faulty same tells = (λ e. tells.0 (same.1 e), λ none. same.0 (tells.1 none))

pub returns-in_err-output-clause-nothing : goal.returns-in_err-output-clause-nothing
returns-in_err-output-clause-nothing c = λ none command is_print.
    let tables = c.deref.ensures.value ∙ c.in_ok-copy_tables.ensures in
    let survey = c.in_ok-survey.survey in (
      survey,
      subst (λ t. IsSurvey c.args.depth t survey) tables c.in_ok-survey.ensures.is,
      c.in_err-output.ensures.nothing (search rules) command is_print c.in_ok-survey.ensures.in_order,
    )

pub returns-clause-ok : goal.returns-clause-ok
returns-clause-ok c = λ command is_print.
    let tables = c.deref.ensures.value ∙ c.in_ok-copy_tables.ensures in
    let survey = c.in_ok-survey.survey in
    let order = c.in_ok-survey.ensures.in_order in
    let status = c.in_ok-output.output.status in
    let same : (status ≡ 0) ↔ (c.if-output-eq0.outcome ≡ 0) = elim c.if-output-eq0.branch [
      | then-output-eq0 w ↦ (λ e. w.outcome-is, λ e. w.if-output-eq0.true)
      | else-output-eq0 w ↦ (λ e. absurd (w.if-output-eq0.false e), λ e. absurd (omega (arith, e, w.outcome-is)))
    ] in
    record {
      survey = survey;
      is = subst (λ t. IsSurvey c.args.depth t survey) tables c.in_ok-survey.ensures.is;
      findings = c.in_ok-findings.findings;
      told = c.in_ok-findings.ensures order;
      made = c.in_ok-output.ensures.ok command is_print order;
      problems = search rules;
      notes = search rules;
      count = search rules;
      faulty = faulty_by command c.in_ok-findings.findings status c.if-output-eq0.outcome same (c.in_ok-output.ensures.problems command is_print);
    }
