use Rattle.std.proofs.Common.{◌≡◌, drop}
use Rattle.acpi_tree.specs.Terms.{terms_of}
use Rattle.acpi_tree.specs.TermView.{operands_view}
use Rattle.acpi_uses.specs.ShownNames.{has_zero}
use Rattle.acpi_uses.proofs.predicate.has_zero.Given as goal

abbrev pub invariant-each : goal.invariant-each
invariant-each l = has_zero (terms_of (operands_view (drop l.operand-index l.operands))) ≡ has_zero (terms_of (operands_view l.operands))
