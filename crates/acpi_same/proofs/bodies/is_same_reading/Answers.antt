use Rattle.std.proofs.Common.{◌≡◌, ◌∙◌, sym}
use Rattle.acpi_tree.specs.TermView.{terms_tree}
use Rattle.acpi_tree.specs.steps.TermEquality.{terms_eq}
use Rattle.acpi_tree.proofs.TermLists.{terms_alike}
use Rattle.acpi_same.proofs.bodies.is_same_reading.Goals as goal

pub returns-in-Terms-Terms : goal.returns-in-Terms-Terms
returns-in-Terms-Terms c =
    let ts = c.in-Terms-Terms.terms.items in
    let us = c.in-Terms-Terms.others.items in
    let same : c.eq.result ≡ terms_eq (terms_tree ts) (terms_tree us) = c.eq.ensures ∙ sym (terms_alike ts us) in
    rw (c.in-Terms-Terms.is-0, c.in-Terms-Terms.is-1) same
