-- What a wrong body leaves open is named here: its refusal then names it, and needs no second search.
use Rattle.std.proofs.Common.{arith}
use Rattle.std.proofs.lemmas.Grind.{common_steps}
use Rattle.acpi_code.specs.steps.Reading.{string_at}
use Rattle.acpi_code.proofs.code.Code.string.Goals as goal

pub returns : goal.returns
unfolding string_at
returns c = grind (arith, common_steps)
