-- What a wrong body leaves open is named here: its refusal then names it, and needs no second search.
use Rattle.std.proofs.Common.{rules}
use Rattle.acpi_body.specs.steps.Setting.{count_in}
use Rattle.acpi_body.proofs.arguments.placed_count.Goals as goal

pub returns-then-is_some : goal.returns-then-is_some
unfolding count_in
returns-then-is_some g c = search rules
