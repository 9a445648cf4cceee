-- What begins at a place of a table's code (ACPI 6.5, 20.2.5).
use Rattle.std.specs.Prelude.{◌==◌, ℕ, cond, filter_map, slice_get, Option, Some, None}
use Rattle.acpi_tree.specs.Tree.{FieldTree}
use Rattle.acpi_outline.specs.Nodes.{FixedTree, NodeTree, NodeTrees}
use Rattle.acpi_ranges.specs.Ranges.{Part, of_node, of_element, of_lost, Range, nothing_entered, code_ranges}
use Rattle.acpi_ranges.specs.SpanViews.{part_of}
use Rattle.acpi_ranges.specs.declared.spans.Span.{Span}

-- A node; or an element of the field list behind these fixed arguments, and the number of bits before it. `to` is the
-- place of the first byte behind it.
pub data Found : Type 0 where
  node_found : (to : ℕ) → NodeTree → Found
  element_found : (to : ℕ) → FixedTree → (offset : ℕ) → FieldTree → Found

-- what stands in a part that ends there, if that isn't lost
abbrev pub found_to : ℕ → Part → Option Found
found_to to (of_node n) = Some (node_found to n)
found_to to (of_element f offset e) = Some (element_found to f offset e)
found_to to (of_lost why) = None

abbrev pub found_at : (place : ℕ) → Range → Option Found
found_at place r = cond (r.from == place) (found_to r.to r.part) None

-- what begins at the place, of nodes that end there
abbrev pub part_at : (place end : ℕ) → NodeTrees → Option Found
part_at place end ns =
    slice_get (filter_map (found_at place) (code_ranges nothing_entered end ns)) 0

-- what a span stands for, if that isn't lost
abbrev pub found_of : Span → Option Found
found_of s = found_to s.to (part_of s.what)
