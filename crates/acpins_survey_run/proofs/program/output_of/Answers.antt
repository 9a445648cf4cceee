use Rattle.std.proofs.Common.{◌≡◌, Some, rules}
use Rattle.std.proofs.lemmas.Result.{on_ok_weaker}
use Rattle.acpins_words.specs.Words.{texts}
use Rattle.acpins_survey_words.specs.Words.{Asked, asked_in, invocation_of, survey}
use Rattle.acpins_survey_run.proofs.Failing.{survey_stores}
use Rattle.acpins_survey_run.proofs.program.output_of.Goals as goal

pub returns-in-Ok-Survey-clause-stored : goal.returns-in-Ok-Survey-clause-stored
returns-in-Ok-Survey-clause-stored g c =
    let asked : Asked = asked_in c.in-Ok-Survey.request in
    let is : invocation_of (texts c.args.words.now) ≡ Some (survey asked) = search rules in
    on_ok_weaker c.survey_output.result (survey_stores (g.F.Files.bytes_of c.args.files.now) (g.D.Folders.names_in c.args.folders.now) g.T.Printer.makes (texts c.args.words.now) asked
    (g.F.Files.written_to c.args.files.now) (g.F.Files.written_to c.survey_output.new.files) is) c.survey_output.ensures.stored
