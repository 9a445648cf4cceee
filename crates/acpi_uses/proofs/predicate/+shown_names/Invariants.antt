use Rattle.std.proofs.Common.{◌≡◌, ◌++◌, drop, Some}
use Rattle.acpi_tree.specs.Terms.{terms_of}
use Rattle.acpi_tree.specs.TermView.{operands_view}
use Rattle.acpi_uses.specs.ShownNames.{names_shown_inside}
use Rattle.acpi_uses.specs.UseViews.{names_view}
use Rattle.acpi_uses.proofs.predicate.+shown_names.Given as goal

abbrev pub invariant-add_inside-each : goal.invariant-add_inside-each
invariant-add_inside-each l = names_view l.names.items ++ names_shown_inside (Some l.value) (terms_of (operands_view (drop l.operand-index l.operands)))
    ≡ names_view l.initial.names.items ++ names_shown_inside (Some l.value) (terms_of (operands_view l.operands))
