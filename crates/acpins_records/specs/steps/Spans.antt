-- Paths whose segments stand one behind the other.
use Rattle.std.specs.Prelude.{◌≤◌, List, map, length, slice_range}
use Rattle.std.specs.List.{All}
use Rattle.acpi_name.specs.Names.{Segment}
use Rattle.acpins_records.specs.declared.paths.Paths.TheInside.{Inside}
use Rattle.acpins_records.specs.declared.paths.Span.{Span}

abbrev pub path_at : List Segment → Span → List Segment
path_at segs s = slice_range segs s.begin s.end

-- a span ends among the segments
abbrev pub IsSpan : List Segment → Span → Type 0
IsSpan segs s = (s.begin ≤ s.end) × (s.end ≤ length segs)

abbrev pub paths_of_spans : Inside → List (List Segment)
paths_of_spans t = map (path_at t.segs.items) t.spans.items

abbrev pub AreSpans : Inside → Type 0
AreSpans t = All (IsSpan t.segs.items) t.spans.items
