-- What a wrong body leaves open is named here: its refusal then names it, and needs no second search.
use Rattle.std.proofs.Common.{arith}
use Rattle.std.proofs.lemmas.Grind.{common_steps}
use Rattle.acpi_name.proofs.writing.put_path.Goals as goal

pub returns : goal.returns
returns c = grind (arith, common_steps)
