use Rattle.std.proofs.Common.{refl, sym, ◌∙◌, ap, cond, Some, map, subst}
use Rattle.std.specs.Ordering.{is_eq}
use Rattle.std.specs.List.Sorted.{IsStrictlySortedBy}
use Rattle.std.specs.BTreeMap.{insert_entry}
use Rattle.acpi_name.specs.Paths.{segment_cmp}
use Rattle.acpi_space.specs.steps.Tree.{child_of}
use Rattle.acpi_space.proofs.NodeWrites.{on_err, get_set_other, written_value, written_children, children_before}
use Rattle.acpi_space.proofs.grown.link.Goals as goal

pub returns-in_err-insert-clause-ordered : goal.returns-in_err-insert-clause-ordered
returns-in_err-insert-clause-ordered g c =
    subst (λ es. IsStrictlySortedBy segment_cmp (map (λ e. e.0) es)) (sym (written_children c.args.nodes.now.items c.args.number _ c.requires)) c.in_err-insert.ensures.ordered

pub returns-in_err-insert-clause-err : goal.returns-in_err-insert-clause-err
returns-in_err-insert-clause-err g c =
    on_err _ c.from_residual.result
    (written_children c.args.nodes.now.items c.args.number _ c.requires ∙ c.in_err-insert.ensures.err
    ∙ children_before c.args.nodes.now.items c.args.number c.index_mut.result.now c.requires c.index_mut.ensures.value)

pub returns-clause-others : goal.returns-clause-others
returns-clause-others g c n h = get_set_other c.args.nodes.now.items c.args.number n _ h

pub returns-clause-value : goal.returns-clause-value
returns-clause-value g c = written_value c.args.nodes.now.items c.args.number c.index_mut.result.now c.requires c.index_mut.ensures.value _ refl

pub returns-clause-ordered : goal.returns-clause-ordered
returns-clause-ordered g c =
    subst (λ es. IsStrictlySortedBy segment_cmp (map (λ e. e.0) es)) (sym (written_children c.args.nodes.now.items c.args.number _ c.requires)) c.in_ok-insert.ensures.ordered

pub returns-clause-entries : goal.returns-clause-entries
returns-clause-entries g c =
    written_children c.args.nodes.now.items c.args.number _ c.requires ∙ c.in_ok-insert.ensures.entries
    ∙ ap (λ es. insert_entry segment_cmp es c.args.seg c.args.next) (children_before c.args.nodes.now.items c.args.number c.index_mut.result.now c.requires c.index_mut.ensures.value)

pub returns-clause-child : goal.returns-clause-child
returns-clause-child g c h =
    ap (λ es. child_of es h) (written_children c.args.nodes.now.items c.args.number _ c.requires) ∙ c.in_ok-insert.ensures.child h
    ∙ ap (λ es. cond (is_eq (segment_cmp c.args.seg h)) (Some c.args.next) (child_of es h))
    (children_before c.args.nodes.now.items c.args.number c.index_mut.result.now c.requires c.index_mut.ensures.value)
