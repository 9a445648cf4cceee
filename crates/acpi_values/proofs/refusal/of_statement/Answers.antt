-- What a wrong body leaves open is named here: its refusal then names it, and needs no second search.
use Rattle.std.proofs.Common.{rules}
use Rattle.acpi_values.proofs.refusal.of_statement.Goals as goal

pub returns-in-Else : goal.returns-in-Else
returns-in-Else c = search rules
