use Rattle.std.proofs.Common.{arith}
use Rattle.std.proofs.lemmas.Grind.{common_steps}
use Rattle.acpi_name_checks.proofs.not_serialized.first_declaring.Goals as goal

pub returns-clause-fits : goal.returns-clause-fits
returns-clause-fits c = grind (arith, common_steps, c.position.ensures.bound, c.iter.ensures.len, c.iter.ensures.bound)
