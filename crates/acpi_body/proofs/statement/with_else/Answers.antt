use Rattle.std.proofs.Common.{Some, sym, ap, ◌∙◌}
use Rattle.acpi_tree.specs.Terms.{TermTree}
use Rattle.acpi_tree.specs.TermView.{decl_step, operand_step, term_step, term_view}
use Rattle.acpi_tree.specs.declared.term.Term.{Term-F, fold-roll-Term}
use Rattle.acpi_tree.specs.declared.term.Term.TheVariants.{rolls-If}
use Rattle.acpi_body.proofs.statement.with_else.Goals as goal

pub returns : goal.returns
returns c =
    ap term_view (sym (rolls-If c.args.predicate c.args.then (Some c.args.other)))
    ∙ fold-roll-Term TermTree TermTree TermTree decl_step operand_step term_step (Term-F.If c.args.predicate c.args.then (Some c.args.other))
