-- What a wrong body leaves open is named here: its refusal then names it, and needs no second search.
use Rattle.std.proofs.Common.{rules}
use Rattle.acpins_output.proofs.checking.check.Goals as goal

pub returns-in-Commute-clause-ok : goal.returns-in-Commute-clause-ok
returns-in-Commute-clause-ok g c = search rules

pub returns-clause-ok : goal.returns-clause-ok
returns-clause-ok g c = search rules
