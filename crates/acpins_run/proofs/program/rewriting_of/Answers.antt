-- What a wrong body leaves open is named here: its refusal then names it, and needs no second search.
use Rattle.std.proofs.Common.{rules}
use Rattle.acpins_run.proofs.program.rewriting_of.Goals as goal

pub returns-clause-stored : goal.returns-clause-stored
returns-clause-stored g c = search rules
