-- What a wrong body leaves open is named here: its refusal then names it, and needs no second search.
use Rattle.std.proofs.Common.{rules}
use Rattle.acpi_code.specs.steps.Fields.{int_in}
use Rattle.acpi_code.proofs.code.Code.int.Goals as goal

pub returns-in_default : goal.returns-in_default
unfolding int_in
returns-in_default c = search rules
