use Rattle.std.proofs.Common.{◌≡◌, ◌++◌, length}
use Rattle.std.specs.List.{flat_map}
use Rattle.acpi_outline.specs.View.{nodes_view}
use Rattle.acpi_findings.specs.Notes.{range_notes}
use Rattle.acpi_pieces.specs.Tables.{code_read}
use Rattle.acpi_findings.specs.Problems.{table_ranges}
use Rattle.acpi_ranges.specs.SpanViews.{ranges_left}
use Rattle.acpi_findings.specs.steps.ReadTables.{entered_at, unknowns_of}
use Rattle.acpi_findings.proofs.notes.put_of_code.Given as goal

-- what is noticed, and the notes of the ranges that are left
abbrev pub invariant-loop-ranges : goal.invariant-loop-ranges
invariant-loop-ranges l =
    l.found.items ++ flat_map (range_notes (unknowns_of l.table) (code_read l.table.judged.now) l.table.number) (ranges_left (entered_at l.table) l.ranges)
    ≡ l.initial.found.items
    ++ flat_map (range_notes (unknowns_of l.table) (code_read l.table.judged.now) l.table.number) (table_ranges (entered_at l.table) l.table.judged.now (nodes_view l.table.nodes.now))

abbrev pub decreases-loop-ranges : goal.decreases-loop-ranges
decreases-loop-ranges l = length (ranges_left (entered_at l.table) l.ranges)
