use Rattle.std.proofs.Common.{◌≡◌, ◌++◌}
use Rattle.acpi_space.proofs.overlay.listed.Given as goal

abbrev pub invariant-loop-path : goal.invariant-loop-path
invariant-loop-path g l = l.list.items ++ l.path-iterator ≡ l.initial.path-iterator
