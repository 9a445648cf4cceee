use Rattle.std.proofs.lemmas.Result.{err_from_is_err_and}
use Rattle.acpi_declare.specs.Declaring.{state_of}
use Rattle.acpi_verdict.proofs.AloneLoads.{dsdt_loads}
use Rattle.acpi_verdict.proofs.CheckedTables.{all_checked}
use Rattle.acpi_verdict.proofs.checking.checked_declared.Goals as goal

pub returns-in_err-clash-clause-memory : goal.returns-in_err-clash-clause-memory
returns-in_err-clash-clause-memory g c = λ bytes loads declared.
    let p = err_from_is_err_and c.from_residual.result c.from_residual.ensures.1 in
    rw (p.1, p.2) (c.in_err-clash.ensures.err bytes loads declared.alone)

pub returns-clause-ok : goal.returns-clause-ok
returns-clause-ok g c = λ bytes loads declared.
    let one = state_of g.S.Space.contents c.args.dsdt.now in
    all_checked c.args.depth bytes c.args.ssdts.now (dsdt_loads c.args.depth bytes one loads) c.args.declared declared c.in_ok-clash.field-0
    (c.in_ok-clash.ensures.ok bytes loads declared.definers) c.verdict_of-verdict.result c.verdict_of-verdict.ensures
