-- What a wrong body leaves open is named here: its refusal then names it, and needs no second search.
use Rattle.std.proofs.Common.{rules}
use Rattle.acpi_code.proofs.code.Code.constant.Goals as goal

pub returns-in-One : goal.returns-in-One
returns-in-One c = search rules
