-- What a wrong body leaves open is named here: its refusal then names it, and needs no second search.
use Rattle.std.proofs.Common.{rules}
use Rattle.acpi_tree.proofs.op.Op.row.Goals as goal

pub returns-in-Store : goal.returns-in-Store
returns-in-Store c = search rules

pub returns-in-Subtract : goal.returns-in-Subtract
returns-in-Subtract c = search rules

pub returns-in-LEqual : goal.returns-in-LEqual
returns-in-LEqual c = search rules

pub returns-in-Return : goal.returns-in-Return
returns-in-Return c = search rules
