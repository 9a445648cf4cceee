use Rattle.std.proofs.Common.{◌≡◌, length}
use Rattle.acpi_overview.proofs.resources.constant_templates.Given as goal

abbrev pub invariant-loop-resources : goal.invariant-loop-resources
invariant-loop-resources l = length l.templates.items ≡ l.resources-index
