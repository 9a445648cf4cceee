use Rattle.std.proofs.Common.{◌≡◌, drop}
use Rattle.acpi_tree.specs.TermView.{terms_tree}
use Rattle.acpi_uses.specs.Exits.{exits_of, in_turn}
use Rattle.acpi_uses.proofs.exits.+exits.Given as goal

abbrev pub invariant-exits_of-each : goal.invariant-exits_of-each
invariant-exits_of-each l = in_turn l.exits (exits_of (terms_tree (drop l.term-index l.terms))) ≡ exits_of (terms_tree l.terms)
