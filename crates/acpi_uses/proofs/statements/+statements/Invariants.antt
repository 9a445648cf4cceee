use Rattle.std.proofs.Common.{◌≡◌, ◌++◌, drop}
use Rattle.acpi_tree.specs.TermView.{terms_tree}
use Rattle.acpi_uses.specs.Statements.{statements_of}
use Rattle.acpi_uses.specs.UseViews.{statements_view}
use Rattle.acpi_uses.proofs.statements.+statements.Given as goal

abbrev pub invariant-add_all-each : goal.invariant-add_all-each
invariant-add_all-each l = statements_view l.statements.items ++ statements_of (terms_tree (drop l.term-index l.terms)) ≡ statements_view l.initial.statements.items ++ statements_of (terms_tree l.terms)
