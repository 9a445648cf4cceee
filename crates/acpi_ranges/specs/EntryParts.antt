-- The parts of tables that declare entries (ACPI 6.5, 5.2.11, 5.3 and 20.2.5).
use Rattle.std.specs.Prelude.{ℕ, cond, nat_lt, List, length, slice_get, Option, None}
use Rattle.std.specs.Option.{option_and_then}
use Rattle.acpi_conditions.specs.Entries.{Entry}
use Rattle.acpi_outline.specs.View.{nodes_view}
use Rattle.acpi_survey.specs.Predefined.{predefined_count}
use Rattle.acpi_pieces.specs.Tables.{code_read}
use Rattle.acpi_survey.specs.declared.machine_survey.SurveyedTable.{SurveyedTable}
use Rattle.acpi_ranges.specs.Lookup.{Found, part_at}
use Rattle.acpi_ranges.specs.Sites.{byte_at, table_at}

-- what begins at a place of the tables
abbrev pub part_in : List SurveyedTable → ℕ → Option Found
part_in ts place = option_and_then
    (λ t. part_at (byte_at place) (length (code_read t.judged)) (nodes_view t.nodes))
    (slice_get ts (table_at place))

-- what declares the entry of that number
abbrev pub part_declaring : List SurveyedTable → List Entry → ℕ → Option Found
part_declaring ts es number = cond (nat_lt number predefined_count) None
    (option_and_then (λ e. part_in ts e.term.place) (slice_get es number))
