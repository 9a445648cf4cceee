use Rattle.std.proofs.Common.{◌≡◌, length}
use Rattle.acpi_overview.proofs.containers.Tree.new.Given as goal

abbrev pub invariant-each : goal.invariant-each
invariant-each l = length l.around.items ≡ l.place
