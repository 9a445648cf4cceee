use Rattle.std.proofs.Common.{Option, option_map, sym, subst, rules}
use Rattle.acpins_survey_words.specs.Words.{differing}
use Rattle.acpins_survey_run.specs.Machines.{machines_in}
use Rattle.acpins_survey_run.specs.Prints.{IsPrintOf}
use Rattle.acpins_survey_run.specs.declared.printing.Output.{Output}
use Rattle.acpins_survey_run.specs.declared.tables.FoundTables.{FoundTables}
use Rattle.acpins_survey_texts.specs.Texts.{IsMade, TellsDiffering}
use Rattle.acpins_survey_texts.proofs.Differing.{by_diff, of_another, of_one}
use Rattle.acpins_survey_texts.proofs.texts.SurveyPrinterPrinter.text.Goals.{in-Diff-Some+in_ok-output-in-Diff-Some, in_default+in_ok-output-in_default, in_default-via-in-Diff+in_default, in_default-via-in_default}
use Rattle.acpins_survey_texts.proofs.texts.SurveyPrinterPrinter.text.Goals as goal

pub returns-clause-made : goal.returns-clause-made
returns-clause-made c = λ command is_print.
    let depth = c.args.depth in
    let machines = machines_in c.args.found.now in
    let survey = c.in_ok-survey.survey in
    let order = c.in_ok-survey.ensures.in_order in
    elim c.match-print.branch [
      | in-Diff-Some+in_ok-output-in-Diff-Some w ↦
          let o = w.in_ok-output-in-Diff-Some in
          let verbose = w.in-Diff-Some.is_verbose in
          let tells = subst (λ (second : Option FoundTables). TellsDiffering (differing verbose) depth survey (option_map (λ f. f.tables.items) second) o.output.status)
          (sym w.in-Diff-Some.is-1) (o.ensures.same order) in
          let made : IsMade (differing verbose) depth machines o.output.status o.output.text.items = record {
            survey = survey;
            is = c.in_ok-survey.ensures.is;
            findings = c.in_ok-findings.findings;
            told = c.in_ok-findings.ensures order;
            made = tt;
            status_is = o.ensures.statuses;
            problems = tt;
            differing = tells;
          } in
          subst (λ (x : Output). IsMade command depth machines x.status x.text.items) (sym w.output-is)
          (by_diff (λ asked. IsMade asked depth machines o.output.status o.output.text.items) command verbose (subst (IsPrintOf command) w.in-Diff-Some.is-0 is_print) made)
      | in_default+in_ok-output-in_default w ↦
          let o = w.in_ok-output-in_default in
          let tells : TellsDiffering command depth survey machines.second o.output.status = elim w.in_default.branch [
            | in_default-via-in-Diff+in_default w' ↦
                subst (λ (second : Option FoundTables). TellsDiffering command depth survey (option_map (λ f. f.tables.items) second) o.output.status)
                (sym w'.in_default.is-1) (of_one command depth survey o.output.status)
            | in_default-via-in_default w' ↦ of_another command c.args.print.now depth survey machines.second o.output.status is_print w'.in_default.not-Diff-0
          ] in
          let made : IsMade command depth machines o.output.status o.output.text.items = record {
            survey = survey;
            is = c.in_ok-survey.ensures.is;
            findings = c.in_ok-findings.findings;
            told = c.in_ok-findings.ensures order;
            made = o.ensures.ok command is_print order;
            status_is = o.ensures.statuses;
            problems = o.ensures.problems command is_print;
            differing = tells;
          } in
          subst (λ (x : Output). IsMade command depth machines x.status x.text.items) (sym w.output-is) made
    ]

pub returns-in_err-output-in_default-clause-nothing : goal.returns-in_err-output-in_default-clause-nothing
returns-in_err-output-in_default-clause-nothing c = λ none command is_print.
    (c.in_ok-survey.survey, c.in_ok-survey.ensures.is, c.in_err-output-in_default.ensures.nothing (search rules) command is_print c.in_ok-survey.ensures.in_order)
