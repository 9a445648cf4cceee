use Rattle.std.proofs.Common.{◌∙◌, sym, ap, subst}
use Rattle.acpi_outline.specs.Nodes.{NodeTree, NodeTrees}
use Rattle.acpi_outline.specs.View.{Placed, node_step, nodes_step, placed_step, end_view, placed_views, put_before}
use Rattle.acpi_outline.specs.Tiling.{Tiles}
use Rattle.acpi_outline.specs.declared.node.Nodes.{out-Nodes, fold_out-Nodes}
use Rattle.acpi_ranges.specs.steps.Search.{search_nodes}
use Rattle.acpi_ranges.specs.steps.Lookups.{IsBefore}
use Rattle.acpi_ranges.proofs.lookup.last_in.Goals as goal

pub returns-clause-found : goal.returns-clause-found
returns-clause-found c start t =
    let place = c.args.place in
    let ns = c.args.nodes.now in
    let same = fold_out-Nodes NodeTree NodeTrees Placed node_step nodes_step placed_step ns ∙ ap (λ ps. put_before (placed_views ps) (end_view (out-Nodes ns).lost)) (sym c.deref.ensures.value) in
    subst (λ (x : NodeTrees). IsBefore place c.node_before.result (search_nodes place c.args.end x)) (sym same)
    (c.node_before.ensures.found start (subst (Tiles start c.args.end) same t))
