-- What a wrong body leaves open is named here: its refusal then names it, and needs no second search.
use Rattle.std.proofs.Common.{rules}
use Rattle.acpi_values.proofs.fault.BodyErrorFromFieldFault.from.Goals as goal

pub returns-in-At-NotConstant : goal.returns-in-At-NotConstant
returns-in-At-NotConstant c = search rules
