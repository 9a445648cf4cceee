use Rattle.std.proofs.Common.{◌≡◌, List, ℕ, Vec, Global, [], inl, inr, None, Option, IfSome, option_map, subst, sym, rules}
use Rattle.acpins_words.specs.Words.{texts}
use Rattle.acpins_survey_run.specs.Input.{LastErrors}
use Rattle.acpins_survey_run.specs.Runs.{IsOutput, IsRunFailure, StoresOutput}
use Rattle.acpins_survey_texts.specs.Texts.{HasNothingIn, IsMade}
use Rattle.acpins_browser.specs.Answers.{IsFailed, IsGiven}
use Rattle.acpins_browser.specs.LentFiles.{bytes_in, names_in, written_in}
use Rattle.acpins_browser.proofs.Given.{is_given}
use Rattle.acpins_browser.proofs.answer.run.Goals as goal

pub returns-in-Ok-clause-answer : goal.returns-in-Ok-clause-answer
returns-in-Ok-clause-answer c =
    let items : Vec ℕ Global → List ℕ = λ w. w.items in
    let files = bytes_in c.args.files.now in
    let folders = names_in c.args.folders.now in
    let arguments = texts c.args.arguments.now in
    let new = c.output_of.new.files in
    let after = written_in (option_map items new.written) new.made.items in
    let printed = c.in-Ok.output.text.items in
    let given = c.given_text.result.items in
    let output : IsOutput files folders IsMade arguments c.in-Ok.output.status printed = search rules in
    let of_folders = subst (λ lent. StoresOutput (bytes_in c.new-files.result.files.now) (names_in lent.now) IsMade arguments
    (written_in (option_map items c.new-files.result.written) c.new-files.result.made.items) after) c.new-folders.ensures c.in-Ok.ensures.stored in
    let of_files = subst (λ lent. StoresOutput (bytes_in lent.now) folders IsMade arguments
    (written_in (option_map items c.new-files.result.written) c.new-files.result.made.items) after) c.new-files.ensures.files of_folders in
    let stored = subst (λ (written : Option (Vec ℕ Global)). StoresOutput files folders IsMade arguments
    (written_in (option_map items written) c.new-files.result.made.items) after) c.new-files.ensures.none of_files in
    let none = subst (λ (w : Option (Vec ℕ Global)). w ≡ None → given ≡ printed) c.into_written.ensures c.given_text.ensures.printed in
    let some = subst (λ (w : Option (Vec ℕ Global)). printed ≡ [] → IfSome w (λ w. given ≡ items w)) c.into_written.ensures c.given_text.ensures.written in
    let nothing = subst (λ (w : Option (Vec ℕ Global)). IfSome w (λ w. items w ≡ [] → given ≡ printed)) c.into_written.ensures c.given_text.ensures.nothing in
    inl (subst (λ status. IsGiven files folders arguments status given) (sym c.from.ensures)
    (is_given items files folders printed given new.made.items arguments new.written c.in-Ok.output.status output stored none some nothing))

pub returns-in-Err-clause-answer : goal.returns-in-Err-clause-answer
returns-in-Err-clause-answer c =
    let files = bytes_in c.args.files.now in
    let folders = names_in c.args.folders.now in
    let arguments = texts c.args.arguments.now in
    let errors : LastErrors = (c.output_of.new.files.last_error, c.output_of.new.folders.last_error) in
    let of_folders = subst (λ lent. IsRunFailure (bytes_in c.new-files.result.files.now) (names_in lent.now) IsMade HasNothingIn errors arguments c.in-Err.failure)
    c.new-folders.ensures c.in-Err.ensures.err.0 in
    let true_of = subst (λ lent. IsRunFailure (bytes_in lent.now) folders IsMade HasNothingIn errors arguments c.in-Err.failure) c.new-files.ensures.files of_folders in
    let failed : IsFailed files folders arguments c.failure_answer.result.status c.failure_answer.result.text.items = record {
      failure = c.in-Err.failure;
      errors = errors;
      true_of = true_of;
      status_is = c.failure_answer.ensures.status;
      rest = c.failure_answer.ensures.line.0;
      line = c.failure_answer.ensures.line.1;
    } in
    inr failed
