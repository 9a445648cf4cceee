-- What a wrong body leaves open is named here: its refusal then names it, and needs no second search.
use Rattle.std.proofs.Common.{rules}
use Rattle.acpi_code.proofs.code.Code.too_deep.Goals as goal

pub returns-in-empty : goal.returns-in-empty
returns-in-empty c = search rules
