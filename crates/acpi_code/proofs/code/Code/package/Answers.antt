-- What a wrong body leaves open is named here: its refusal then names it, and needs no second search.
use Rattle.std.proofs.Common.{arith}
use Rattle.std.proofs.lemmas.Grind.{common_steps}
use Rattle.acpi_code.specs.steps.Reading.{package_at}
use Rattle.acpi_code.proofs.code.Code.package.Goals as goal

pub split-requires : goal.split-requires
split-requires c = grind arith

pub returns : goal.returns
unfolding package_at
returns c = grind (arith, common_steps)
