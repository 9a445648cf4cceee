use Rattle.std.proofs.Common.{◌≡◌, ◌++◌, drop}
use Rattle.acpi_ranges.specs.steps.Indexes.{index_entered, index_refusals}
use Rattle.acpins_survey_output.specs.Maps.{map_by}
use Rattle.acpins_survey_output.proofs.ranges.put_tables.Given as goal

-- the lines so far, and those of the tables that are left
abbrev pub invariant-loop-number : goal.invariant-loop-number
invariant-loop-number l =
    l.text ++ map_by (index_entered l.index) (index_refusals l.index) l.number (drop l.number l.tables)
    ≡ l.initial.text ++ map_by (index_entered l.index) (index_refusals l.index) 0 l.tables
