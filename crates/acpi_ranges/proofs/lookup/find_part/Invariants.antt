use Rattle.std.proofs.Common.{◌≡◌, ℕ}
use Rattle.acpi_outline.specs.Tiling.{Tiles}
use Rattle.acpi_outline.specs.View.{nodes_view}
use Rattle.acpi_ranges.specs.steps.Search.{search_nodes}
use Rattle.acpi_ranges.specs.steps.NodeCounts.{count_nodes}
use Rattle.acpi_ranges.proofs.lookup.find_part.Given as goal

-- what begins at the place among all nodes begins there in the list, which tiles its bytes
abbrev pub invariant-levels : goal.invariant-levels
invariant-levels l = Tiles 0 l.end (nodes_view l.nodes)
    → (search_nodes l.place l.end (nodes_view l.nodes) ≡ search_nodes l.place l.list_end (nodes_view l.list)) × ((start : ℕ) × Tiles start l.list_end (nodes_view l.list))

abbrev pub decreases-levels : goal.decreases-levels
decreases-levels l = count_nodes (nodes_view l.list)
