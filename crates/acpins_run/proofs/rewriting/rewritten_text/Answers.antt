use Rattle.std.proofs.lemmas.Result.{err_from_is_err_and}
use Rattle.acpins_run.proofs.rewriting.rewritten_text.Goals as goal

pub returns-in_err-rewritten-clause-none : goal.returns-in_err-rewritten-clause-none
returns-in_err-rewritten-clause-none g c =
    let p = err_from_is_err_and c.from_residual.result c.from_residual.ensures.1 in
    rw (p.1, p.2) c.in_err-rewritten.ensures.none
