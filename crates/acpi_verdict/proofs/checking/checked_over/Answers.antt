use Rattle.acpi_verdict.proofs.checking.checked_over.Goals as goal

pub returns-in-Ok-clause-ok : goal.returns-in-Ok-clause-ok
returns-in-Ok-clause-ok g c = λ bytes loads. c.checked_declared.ensures.ok bytes loads (c.in-Ok.ensures.ok bytes loads)

pub returns-in-Ok-clause-memory : goal.returns-in-Ok-clause-memory
returns-in-Ok-clause-memory g c = λ bytes loads. c.checked_declared.ensures.memory bytes loads (c.in-Ok.ensures.ok bytes loads)

pub returns-in-Err-clause-ok : goal.returns-in-Err-clause-ok
returns-in-Err-clause-ok g c = λ bytes loads. c.refused.ensures.ok c.args.depth bytes c.args.ssdts.now (c.in-Err.ensures.err bytes loads)
