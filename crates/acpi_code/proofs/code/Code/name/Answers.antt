-- What a wrong body leaves open is named here: its refusal then names it, and needs no second search.
use Rattle.std.proofs.Common.{rules}
use Rattle.acpi_code.specs.steps.Reading.{name_in}
use Rattle.acpi_code.proofs.code.Code.name.Goals as goal

pub returns-in-Err-ZeroCount : goal.returns-in-Err-ZeroCount
unfolding name_in
returns-in-Err-ZeroCount c = search rules
