-- What a wrong body leaves open is named here: its refusal then names it, and needs no second search.
use Rattle.std.proofs.Common.{rules}
use Rattle.acpi_body.proofs.arguments.args_there.Goals as goal

pub returns-then-is_some : goal.returns-then-is_some
returns-then-is_some g c = search rules
