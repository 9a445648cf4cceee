-- How many nodes there are: a search that goes into a node has fewer before it.
use Rattle.std.specs.Prelude.{ℕ, zero, suc, ◌+◌}
use Rattle.acpi_outline.specs.Nodes.{NodeTree, holds, NodeTrees, no_more, lost, node}

abbrev mutual
  pub count_inside : NodeTree → ℕ
  count_inside (holds f ns) = count_nodes ns
  count_inside _ = zero

  pub count_nodes : NodeTrees → ℕ
  count_nodes no_more = zero
  count_nodes (lost place why) = zero
  count_nodes (node place n ns) = suc (count_inside n + count_nodes ns)
