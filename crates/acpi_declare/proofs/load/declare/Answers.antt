-- What a wrong body leaves open is named here: its refusal then names it, and needs no second search.
use Rattle.std.proofs.Common.{rules}
use Rattle.acpi_declare.proofs.load.declare.Goals as goal

pub returns-clause-ok : goal.returns-clause-ok
returns-clause-ok g c = search rules

pub returns-clause-notes : goal.returns-clause-notes
returns-clause-notes g c = search rules

pub returns-clause-err : goal.returns-clause-err
returns-clause-err g c = search rules

pub returns-clause-none : goal.returns-clause-none
returns-clause-none g c = search rules
