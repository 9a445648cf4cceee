use Rattle.std.proofs.Common.{sym, subst}
use Rattle.std.proofs.lemmas.Result.{err_from_is_err_and}
use Rattle.acpi_verdict.specs.VerdictView.{IsSinglesFault}
use Rattle.acpi_verdict.proofs.satisfying.satisfied_over.Goals as goal

pub returns-in_err-declared-clause-err : goal.returns-in_err-declared-clause-err
returns-in_err-declared-clause-err g c = λ bytes loads.
    let p = err_from_is_err_and c.from_residual.result c.from_residual.ensures.1 in
    rw (p.1, p.2) (c.in_err-declared.ensures.err bytes loads)

pub returns-in_err-found-clause-err : goal.returns-in_err-found-clause-err
returns-in_err-found-clause-err g c = λ bytes loads.
    let p = err_from_is_err_and c.from_residual-in_err-found.result c.from_residual-in_err-found.ensures.1 in
    let memory = c.in_err-found.ensures.err bytes loads (c.in_ok-declared.ensures.ok bytes loads).alone in
    rw (p.1, p.2) (subst (IsSinglesFault c.args.depth bytes c.args.ssdts.now) (sym memory) tt)

pub returns-clause-ok : goal.returns-clause-ok
returns-clause-ok g c = λ bytes loads.
    let declared = c.in_ok-declared.ensures.ok bytes loads in
    (c.in_ok-found.ensures.ok bytes loads declared.definers).satisfied

pub returns-clause-loads : goal.returns-clause-loads
returns-clause-loads g c = λ bytes loads. (c.in_ok-declared.ensures.ok bytes loads).alone
