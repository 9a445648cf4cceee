use Rattle.std.proofs.Common.{◌≡◌, drop}
use Rattle.acpi_tree.specs.Terms.{terms_of}
use Rattle.acpi_tree.specs.TermView.{terms_tree, operands_view}
use Rattle.acpi_body.specs.Loads.{have_load}
use Rattle.acpi_body_notes.proofs.loads.+loads.Given as goal

-- no load stands in the terms so far
abbrev pub invariant-have_load-each : goal.invariant-have_load-each
invariant-have_load-each l = have_load (terms_tree (drop l.term-index l.terms)) ≡ have_load (terms_tree l.terms)

abbrev pub invariant-operands_have_load-each : goal.invariant-operands_have_load-each
invariant-operands_have_load-each l =
    have_load (terms_of (operands_view (drop l.operand-index l.operands))) ≡ have_load (terms_of (operands_view l.operands))
