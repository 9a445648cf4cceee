use Rattle.std.specs.Borrow.{Bor}
use Rattle.std.specs.List.{list_any}
use Rattle.std.proofs.Common.{◌∙◌, sym, ap}
use Rattle.acpi_conditions.proofs.WayTests.{any_map}
use Rattle.acpi_tree.specs.TermView.{term_view}
use Rattle.acpi_tree.specs.declared.term.Term.{Term}
use Rattle.acpi_uses.specs.UseViews.{statement_view}
use Rattle.acpi_method_reads.specs.Reads.{is_return}
use Rattle.acpi_method_reads.proofs.reads.has_return.Goals as goal

pub returns : goal.returns
returns c =
    c.any_returns.ensures
    ∙ ap (list_any (λ (t : Bor Term). is_return (term_view t.now))) c.deref.ensures.value
    ∙ sym (any_map statement_view is_return c.in_ok-statements.statements.items)
    ∙ ap (list_any is_return) c.in_ok-statements.ensures
