use Rattle.std.proofs.Common.{inr, None}
use Rattle.acpins_survey_run.specs.declared.failure.Failure.TheVariants as failures
use Rattle.acpins_browser.specs.Answers.{IsFailed, arguments_in}
use Rattle.acpins_browser.specs.LentFiles.{bytes_in, names_in}
use Rattle.acpins_browser.proofs.answer.answer_of.Goals as goal

pub returns-in-Err-clause-answer : goal.returns-in-Err-clause-answer
returns-in-Err-clause-answer c =
    let failed : IsFailed (bytes_in c.args.files.now) (names_in c.args.folders.now) (arguments_in c.args.arguments.now) c.failure_answer.result.status c.failure_answer.result.text.items = record {
      failure = failures.Memory;
      errors = (None, None);
      true_of = tt;
      status_is = c.failure_answer.ensures.status;
      rest = c.failure_answer.ensures.line.0;
      line = c.failure_answer.ensures.line.1;
    } in
    inr failed
