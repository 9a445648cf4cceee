-- What a wrong body leaves open is named here: its refusal then names it, and needs no second search.
use Rattle.std.proofs.Common.{arith}
use Rattle.std.proofs.lemmas.Grind.{common_steps}
use Rattle.acpi_body.proofs.misses.open_misses_of.Goals as goal

pub loop-path-preserved : goal.loop-path-preserved
loop-path-preserved c = grind (arith, common_steps)
