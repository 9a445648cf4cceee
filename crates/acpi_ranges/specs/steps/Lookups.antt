-- What a search for a place has found, and where it goes on.
use Rattle.std.specs.Prelude.{◌≡◌, ◌==◌, ℕ, cond, List, Option, Some, None}
use Rattle.acpi_outline.specs.View.{node_view, placed_views, put_before, end_view, placed_fields, fields_before, fields_end}
use Rattle.acpi_outline.specs.Nodes.{NodeTrees, FieldNodes}
use Rattle.acpi_outline.specs.declared.node.PlacedNode.{PlacedNode}
use Rattle.acpi_outline.specs.declared.node.PlacedField.{PlacedField}
use Rattle.acpi_outline.specs.Tiling.{TilesInside}
use Rattle.acpi_outline.specs.declared.node.Lost.{Lost}
use Rattle.acpi_ranges.specs.Lookup.{Found, node_found}
use Rattle.acpi_ranges.specs.steps.Search.{search_node}
use Rattle.acpi_ranges.specs.declared.lookup.NodeRange.{NodeRange}

-- where an item ends that this place follows, if one does
abbrev pub end_behind : Option ℕ → Option Lost → ℕ → ℕ
end_behind (Some place) l end = place
end_behind None (Some l) end = l.place
end_behind None None end = end

-- nodes, and what is lost behind them
abbrev pub nodes_before : List PlacedNode → Option Lost → NodeTrees
nodes_before ns l = put_before (placed_views ns) (end_view l)

-- elements, and what is lost behind them
abbrev pub elements_before : List PlacedField → Option Lost → FieldNodes
elements_before fs l = fields_before (placed_fields fs) (fields_end l)

-- The node of a list that begins at the place, or else the one in which what begins there may be.
abbrev pub IsBefore : ℕ → Option NodeRange → Option Found → Type 0
IsBefore place None found = found ≡ None
IsBefore place (Some r) found =
    (found ≡ cond (r.from == place) (Some (node_found r.to (node_view r.node.now)))
    (search_node place r.to (node_view r.node.now)))
    × TilesInside r.from r.to (node_view r.node.now)
