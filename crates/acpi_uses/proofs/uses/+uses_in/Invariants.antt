use Rattle.std.proofs.Common.{◌≡◌, ◌++◌, drop}
use Rattle.acpi_tree.specs.Terms.{terms_of}
use Rattle.acpi_tree.specs.TermView.{terms_tree, operands_view}
use Rattle.acpi_uses.specs.Uses.{uses_in_all, uses_in_operands}
use Rattle.acpi_uses.specs.UseViews.{uses_view}
use Rattle.acpi_uses.proofs.uses.+uses_in.Given as goal

abbrev pub invariant-add_all-each : goal.invariant-add_all-each
invariant-add_all-each l = uses_view l.uses.items ++ uses_in_all l.role (terms_tree (drop l.term-index l.terms))
    ≡ uses_view l.initial.uses.items ++ uses_in_all l.role (terms_tree l.terms)

abbrev pub invariant-add_operands-each : goal.invariant-add_operands-each
invariant-add_operands-each l = uses_view l.uses.items ++ uses_in_operands l.op (drop l.i l.kinds) (terms_of (operands_view (drop l.i l.operands)))
    ≡ uses_view l.initial.uses.items ++ uses_in_operands l.op l.kinds (terms_of (operands_view l.operands))
