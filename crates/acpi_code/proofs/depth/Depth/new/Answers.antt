-- What a wrong body leaves open is named here: its refusal then names it, and needs no second search.
use Rattle.std.proofs.Common.{rules}
use Rattle.acpi_code.proofs.depth.Depth.new.Goals as goal

pub invariant_of-result : goal.invariant_of-result
invariant_of-result c = search rules
