-- The range of a code that a span stands for, and the ranges that are still to come.
use Rattle.std.specs.Prelude.{ℕ, suc, Bool, List, [], ◌∷◌, ◌++◌, Option, Some, None, unwrap_or}
use Rattle.std.specs.Option.{option_copied}
use Rattle.std.specs.Borrow.{Bor}
use Rattle.acpi_tree.specs.View.{field_view}
use Rattle.acpi_outline.specs.View.{node_view, fixed_view, placed_views, put_before, end_view, placed_fields, fields_before, fields_end}
use Rattle.acpi_outline.specs.declared.node.Lost.{Lost}
use Rattle.acpi_conditions.specs.Entries.{Path}
use Rattle.acpi_ranges.specs.Ranges.{Part, of_node, of_element, of_lost, Range, range, Entered, ranges_of, element_ranges}
use Rattle.acpi_ranges.specs.declared.spans.SpanContent.{SpanContent}
use Rattle.acpi_ranges.specs.declared.spans.SpanContent.TheVariants as whats
use Rattle.acpi_ranges.specs.declared.spans.Span.{Span}
use Rattle.acpi_ranges.specs.declared.spans.ScopedSpan.{ScopedSpan}
use Rattle.acpi_ranges.specs.declared.spans.Items.{Items}
use Rattle.acpi_ranges.specs.declared.spans.Items.TheVariants as items
use Rattle.acpi_ranges.specs.declared.spans.Remainder.{Remainder}
use Rattle.acpi_ranges.specs.declared.spans.Spans.{Spans}

abbrev pub part_of : SpanContent → Part
part_of (whats.Node n) = of_node (node_view n.now)
part_of (whats.Element f e offset) = of_element (fixed_view f.now) offset (field_view e.now)
part_of (whats.Lost why) = of_lost why

-- ---- scopes

-- the path of a scope around, or that of the root
abbrev pub scope_of : Option (Bor Path) → Path
scope_of around = unwrap_or (option_copied around) []

-- ---- ranges

abbrev pub span_range : Path → Bool → Span → Range
span_range s behind_if x = range x.depth x.from x.to s behind_if (part_of x.what)

abbrev pub range_of : ScopedSpan → Range
range_of x = span_range (scope_of x.around) x.is_behind_if x.span

-- a range that comes first, and those behind it; without one there are none
abbrev pub with_first_range : Option ScopedSpan → List Range → List Range
with_first_range None ranges = []
with_first_range (Some x) ranges = range_of x ∷ ranges

-- ---- what is still to come

abbrev pub items_left : Entered → (depth : ℕ) → Path → (end : ℕ) → Bool → Items → Option Lost
    → List Range
items_left entered depth s end behind_if (items.Nodes ns) l =
    ranges_of entered depth s end behind_if (put_before (placed_views ns.now) (end_view l))
items_left entered depth s end behind_if (items.Fields f es) l =
    element_ranges depth s end (fixed_view f.now) (fields_before (placed_fields es.now) (fields_end l))

abbrev pub left_in : Entered → (depth : ℕ) → Remainder → List Range
left_in entered depth r =
    items_left entered depth (scope_of r.around) r.end r.is_behind_if r.items r.lost

-- of lists one inside the other, the innermost last; so many nodes stand around the first
abbrev pub all_left : Entered → (depth : ℕ) → List Remainder → List Range
all_left entered depth [] = []
all_left entered depth (r ∷ rs) = all_left entered (suc depth) rs ++ left_in entered depth r

abbrev pub ranges_left : Entered → Spans → List Range
ranges_left entered s = all_left entered 0 s.lists.items
