-- What a wrong body leaves open is named here: its refusal then names it, and needs no second search.
use Rattle.std.proofs.Common.{rules}
use Rattle.acpi_body.proofs.same.same_body.Goals as goal

pub returns-in-Opaque-Opaque : goal.returns-in-Opaque-Opaque
returns-in-Opaque-Opaque c = search rules
