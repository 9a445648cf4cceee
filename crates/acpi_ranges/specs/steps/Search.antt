-- The search for what begins at a place of a table's code, list by list.
use Rattle.std.specs.Prelude.{◌==◌, ℕ, cond, Option, Some, None}
use Rattle.std.specs.Option.{option_or}
use Rattle.acpi_outline.specs.Nodes.{NodeTree, holds, holds_fields, NodeTrees, no_more, lost, node, FixedTree, FieldNodes, no_more_fields, fields_lost, field_node}
use Rattle.acpi_ranges.specs.Ranges.{first_place, first_field_place}
use Rattle.acpi_ranges.specs.Lookup.{Found, node_found, element_found}

-- of elements that end there
abbrev pub search_fields : (place end : ℕ) → FixedTree → FieldNodes → Option Found
search_fields place end f no_more_fields = None
search_fields place end f (fields_lost p why) = None
search_fields place end f (field_node p offset e es) = cond (p == place)
    (Some (element_found (first_field_place end es) f offset e)) (search_fields place end f es)

-- of nodes that end there
abbrev mutual
  pub search_node : (place end : ℕ) → NodeTree → Option Found
  search_node place end (holds f ns) = search_nodes place end ns
  search_node place end (holds_fields f es) = search_fields place end f es
  search_node place end _ = None

  pub search_nodes : (place end : ℕ) → NodeTrees → Option Found
  search_nodes place end no_more = None
  search_nodes place end (lost p why) = None
  search_nodes place end (node p n ns) = cond (p == place)
      (Some (node_found (first_place end ns) n))
      (option_or (search_node place (first_place end ns) n) (search_nodes place end ns))
