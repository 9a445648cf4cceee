use Rattle.std.proofs.Common.{◌≡◌, sym, subst, rules}
use Rattle.acpi_survey.specs.Surveys.{IsSurvey}
use Rattle.acpi_survey.specs.declared.machine_survey.Survey.{Survey}
use Rattle.acpins_lent.specs.Lent.{bytes_of}
use Rattle.acpins_lent.specs.declared.outcomes.SurveyOutcome.{SurveyOutcome}
use Rattle.acpins_survey_texts.specs.Texts.{HasNothingAt}
use Rattle.acpins_survey_calls.specs.Asked.{IsPrintedBy}
use Rattle.acpins_survey_calls.specs.Texts.{IsTextOfTables}
use Rattle.acpins_survey_calls.proofs.survey_text.write_survey_text.Goals as goal

pub returns-in-Ok-clause-ok : goal.returns-in-Ok-clause-ok
returns-in-Ok-clause-ok c = λ ok.
    let printed : IsPrintedBy c.args.what c.args.path.now c.in-Ok-Some.print = search rules in
    let of_depth : c.in-Some.depth ≡ c.args.depth = search rules in
    let made = c.in-Ok.made in
    let is = subst (λ depth. IsTextOfTables depth (bytes_of c.args.tables.now) printed.0 made.text.items made.outcome) of_depth (c.in-Ok.ensures.ok printed.0 printed.2) in
    record {
      command = printed.0;
      asks = printed.1;
      text = made.text.items;
      is = subst (λ (o : SurveyOutcome). IsTextOfTables c.args.depth (bytes_of c.args.tables.now) printed.0 made.text.items o) (sym c.put_text.ensures.outcome) is;
      written = c.put_text.ensures.ok ok;
    }

pub returns-in-Err-NoSuchPath-clause-none : goal.returns-in-Err-NoSuchPath-clause-none
returns-in-Err-NoSuchPath-clause-none c = λ none.
    let printed : IsPrintedBy c.args.what c.args.path.now c.in-Ok-Some.print = search rules in
    let of_depth : c.in-Some.depth ≡ c.args.depth = search rules in
    let nothing = c.in-Err-NoSuchPath.ensures.nothing (search rules) printed.0 printed.2 in
    let there = subst (λ depth. (s : Survey) × IsSurvey depth (bytes_of c.args.tables.now) s × HasNothingAt printed.0 s) of_depth nothing in
    (printed.0, printed.1, there.0, there.1, there.2)
