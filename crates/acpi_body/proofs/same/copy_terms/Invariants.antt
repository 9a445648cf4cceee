use Rattle.std.proofs.Common.{◌≡◌, take}
use Rattle.acpi_tree.specs.TermView.{terms_view}
use Rattle.acpi_body.proofs.same.copy_terms.Given as goal

abbrev pub invariant-loop-term : goal.invariant-loop-term
invariant-loop-term l = terms_view l.copies.items ≡ terms_view (take l.term-index l.terms)
