-- What a wrong body leaves open is named here: its refusal then names it, and needs no second search.
use Rattle.std.proofs.Common.{rules}
use Rattle.acpi_body.proofs.arguments.deeper.Goals as goal

pub returns-then-a-b : goal.returns-then-a-b
returns-then-a-b c = search rules

pub returns-else-a-b : goal.returns-else-a-b
returns-else-a-b c = search rules
