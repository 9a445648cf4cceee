use Rattle.std.specs.Prelude.{position}
use Rattle.std.specs.Borrow.{Bor}
use Rattle.std.proofs.Common.{◌∙◌, sym, ap}
use Rattle.acpi_tree.specs.TermView.{term_view}
use Rattle.acpi_tree.specs.declared.term.Term.{Term}
use Rattle.acpi_uses.specs.UseViews.{statement_view}
use Rattle.acpi_name_checks.specs.Serialized.{declares}
use Rattle.acpi_name_checks.proofs.Positions.{position_map}
use Rattle.acpi_name_checks.proofs.not_serialized.first_of_body.Goals as goal

pub returns-clause-is : goal.returns-clause-is
returns-clause-is c =
    c.first_declaring.ensures.is
    ∙ ap (position (λ (t : Bor Term). declares (term_view t.now))) c.deref.ensures.value
    ∙ sym (position_map statement_view declares c.in_ok-statements.statements.items)
    ∙ ap (position declares) c.in_ok-statements.ensures
