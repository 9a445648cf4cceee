use Rattle.std.proofs.Common.{◌≡◌, ◌++◌, map, drop}
use Rattle.acpi_findings.specs.ProblemViews.{problem_view}
use Rattle.acpi_findings.specs.Findings.{notes_by, problems_by}
use Rattle.acpi_ranges.specs.steps.Indexes.{index_entered, index_refusals, index_unknowns}
use Rattle.acpi_findings.proofs.findings.found_by.Given as goal

abbrev pub invariant-each : goal.invariant-each
invariant-each l =
    (map problem_view l.found.problems.items ++ problems_by (index_entered l.index) (index_refusals l.index) l.number (drop l.number l.tables)
    ≡ problems_by (index_entered l.index) (index_refusals l.index) 0 l.tables)
    × (l.found.notes.items ++ notes_by (index_entered l.index) (index_unknowns l.index) l.number (drop l.number l.tables)
    ≡ notes_by (index_entered l.index) (index_unknowns l.index) 0 l.tables)
