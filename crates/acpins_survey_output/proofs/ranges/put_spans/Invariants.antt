use Rattle.std.proofs.Common.{◌≡◌, ◌++◌, length}
use Rattle.std.specs.List.{flat_map}
use Rattle.acpi_outline.specs.View.{nodes_view}
use Rattle.acpi_ranges.specs.Ranges.{code_ranges, nothing_entered}
use Rattle.acpi_ranges.specs.SpanViews.{ranges_left}
use Rattle.acpi_pieces.specs.Tables.{code_read}
use Rattle.acpins_survey_output.specs.Maps.{range_lines}
use Rattle.acpins_survey_output.specs.steps.MapViews.{places_view}
use Rattle.acpins_survey_output.proofs.ranges.put_spans.Given as goal

-- the lines so far, and those of the ranges that are left
abbrev pub invariant-loop-spans : goal.invariant-loop-spans
invariant-loop-spans l =
    l.text ++ flat_map (range_lines (places_view l.places) (code_read l.table.judged)) (ranges_left nothing_entered l.spans)
    ≡ l.initial.text
    ++ flat_map (range_lines (places_view l.places) (code_read l.table.judged)) (code_ranges nothing_entered (length (code_read l.table.judged)) (nodes_view l.table.nodes))

abbrev pub decreases-loop-spans : goal.decreases-loop-spans
decreases-loop-spans l = length (ranges_left nothing_entered l.spans)
