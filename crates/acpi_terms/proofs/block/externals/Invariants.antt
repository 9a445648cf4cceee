use Rattle.std.proofs.Common.{length}
use Rattle.acpi_terms.proofs.block.externals.Given as goal
use Rattle.acpi_code.proofs.Lists.{Turns}
use Rattle.acpi_terms.specs.steps.Reading.{external_at}
use Rattle.acpi_tree.specs.View.{externals_view}

abbrev pub invariant-each : goal.invariant-each
invariant-each l = Turns (external_at l.level) l.fn.code l.code (externals_view l.found.items)

abbrev pub decreases-each : goal.decreases-each
decreases-each l = length l.code.bytes
