use Rattle.std.proofs.Common.{rules, inr}
use Rattle.std.proofs.lemmas.Result.{err_from_is_err_and}
use Rattle.acpins_words.specs.Words.{texts}
use Rattle.acpins_survey_words.specs.Words.{asked_in}
use Rattle.acpins_survey_run.specs.Input.{LastErrors}
use Rattle.acpins_survey_run.specs.Runs.{AreNamesOf}
use Rattle.acpins_survey_run.proofs.Failing.{machines_fault}
use Rattle.acpins_survey_run.proofs.program.machines_of.Goals as goal

pub returns-in_err-tables_of-in-Some-clause-err : goal.returns-in_err-tables_of-in-Some-clause-err
returns-in_err-tables_of-in-Some-clause-err g c =
    let p = err_from_is_err_and c.from_residual-in_err-tables_of-in-Some.result c.from_residual-in_err-tables_of-in-Some.ensures.1 in
    let files = g.F.Files.bytes_of c.args.files.now in
    let folders = g.D.Folders.names_in c.args.folders.now in
    let last : LastErrors = (g.F.Files.last_error c.tables_of-in-Some.new.files, g.D.Folders.last_error c.tables_of-in-Some.new.folders) in
    let names = texts c.in-Some.names.now in
    let are : AreNamesOf (asked_in c.args.request.now) names = inr (search rules) in
    rw (p.1, p.2) (machines_fault files folders last (asked_in c.args.request.now) names c.in_err-tables_of-in-Some.field-0.0 are
    (rw (c.in_ok-first.ensures.files, c.in_ok-first.ensures.folders) at c.in_err-tables_of-in-Some.ensures.err))
