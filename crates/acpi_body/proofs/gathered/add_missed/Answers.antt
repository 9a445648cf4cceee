-- What a wrong body leaves open is named here: its refusal then names it, and needs no second search.
use Rattle.std.proofs.Common.{rules}
use Rattle.acpi_body.proofs.gathered.add_missed.Goals as goal

pub loop-path-preserved : goal.loop-path-preserved
loop-path-preserved c = search rules

pub loop-path-preserved-in-Continue-1 : goal.loop-path-preserved-in-Continue-1
loop-path-preserved-in-Continue-1 c = search rules
