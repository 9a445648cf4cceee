use Rattle.std.proofs.Common.{◌≡◌, ◌++◌, drop}
use Rattle.acpi_conditions.proofs.reasons.copy_paths.Given as goal

abbrev pub invariant-each : goal.invariant-each
invariant-each l = l.copies.items ++ drop l.path-index l.paths ≡ l.paths
