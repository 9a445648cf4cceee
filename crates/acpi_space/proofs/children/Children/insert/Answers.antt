use Rattle.std.proofs.Common.{◌∙◌, cond, Some, None, ap, sym, rules}
use Rattle.std.specs.Ordering.{is_eq}
use Rattle.acpi_name.specs.Paths.{segment_cmp}
use Rattle.acpi_space.specs.declared.children.Children.{Children}
use Rattle.acpi_space.specs.steps.Tree.{child_of, entries_of}
use Rattle.acpi_space.proofs.Comparisons.{one_ascends, segment_turned}
use Rattle.acpi_space.proofs.children.Children.insert.Goals as goal

pub returns-in-Empty-clause-ordered : goal.returns-in-Empty-clause-ordered
returns-in-Empty-clause-ordered c = one_ascends c.args.seg

pub returns-in-Empty-clause-child : goal.returns-in-Empty-clause-child
returns-in-Empty-clause-child c = λ g.
    ap (λ b. cond b (Some c.args.number) None) (segment_turned g c.args.seg)
    ∙ ap (λ (k : Children). cond (is_eq (segment_cmp c.args.seg g)) (Some c.args.number) (child_of (entries_of k) g)) (sym c.in-Empty.is)

pub returns-in_err-insert_into-in-One-clause-ordered : goal.returns-in_err-insert_into-in-One-clause-ordered
returns-in_err-insert_into-in-One-clause-ordered c = one_ascends c.in-One.first

-- What a wrong body leaves open is named too: its refusal then names it, and needs no second search.
pub returns-in-Several-clause-entries : goal.returns-in-Several-clause-entries
returns-in-Several-clause-entries c = search rules

pub returns-in-Several-clause-child : goal.returns-in-Several-clause-child
returns-in-Several-clause-child c = search rules

pub returns-in-Several-clause-err : goal.returns-in-Several-clause-err
returns-in-Several-clause-err c = search rules
