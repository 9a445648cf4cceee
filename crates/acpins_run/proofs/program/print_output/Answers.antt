-- What a wrong body leaves open is named here: its refusal then names it, and needs no second search.
use Rattle.std.proofs.Common.{rules, subst}
use Rattle.std.specs.Prelude.{IfErr}
use Rattle.std.proofs.lemmas.Result.{IfErr-weaker}
use Rattle.acpins_words.specs.Words.{texts}
use Rattle.acpins_run.specs.Runs.{IsRunFailure}
use Rattle.acpins_run.proofs.Refused.{begins_with_nothing}
use Rattle.acpins_run.proofs.program.print_output.Goals as goal

pub returns-clause-ok : goal.returns-clause-ok
returns-clause-ok g c = search rules

pub returns-in_err-text-clause-begun : goal.returns-in_err-text-clause-begun
returns-in_err-text-clause-begun g c =
    let bytes_of = g.F.Files.bytes_of c.args.files.now in
    let last = g.F.Files.last_error c.output_of.new.files in
    let words = texts c.args.words.now in
    let failed : IfErr c.from_residual.result (IsRunFailure bytes_of last words) = search rules in
    IfErr-weaker c.from_residual.result _ _ (λ f h is. begins_with_nothing bytes_of last words (g.O.Write.contents c.args.out.now) (subst (IsRunFailure bytes_of last words) is h)) failed
