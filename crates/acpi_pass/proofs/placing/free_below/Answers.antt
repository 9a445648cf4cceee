-- What a wrong body leaves open is named here: its refusal then names it, and needs no second search.
use Rattle.std.proofs.Common.{rules}
use Rattle.acpi_pass.proofs.Searches.{rejoined_parts}
use Rattle.acpi_pass.proofs.placing.free_below.Goals as goal

pub returns-then-is_some : goal.returns-then-is_some
returns-then-is_some g c = search (rules, rejoined_parts)

pub returns-else-is_some : goal.returns-else-is_some
returns-else-is_some g c = search (rules, rejoined_parts)
