-- What the code knows of a table, by place.
use Rattle.acpi_findings.specs.declared.problems.ReadTable.{ReadTable}
use Rattle.acpi_ranges.specs.Index.{Refusals, Unknowns}
use Rattle.acpi_ranges.specs.Ranges.{Entered}
use Rattle.acpi_ranges.specs.steps.Indexes.{index_entered, index_refusals, index_unknowns}

abbrev pub entered_at : ReadTable → Entered
entered_at t = index_entered t.index.now t.number

abbrev pub refusals_of : ReadTable → Refusals
refusals_of t = index_refusals t.index.now

abbrev pub unknowns_of : ReadTable → Unknowns
unknowns_of t = index_unknowns t.index.now
