use Rattle.std.proofs.Common.{List, map, drop}
use Rattle.std.specs.Prelude.{IsTrue}
use Rattle.std.specs.FinMap.{empty}
use Rattle.acpi_name.specs.Names.{Segment}
use Rattle.acpi_declare.specs.Notes.{notes_of}
use Rattle.acpi_space.specs.Spaces.{is_defined}
use Rattle.acpi_body.specs.steps.Gathering.{Paths, Grows}
use Rattle.acpi_verdict.specs.steps.Misses.{IsMissedScope}
use Rattle.acpi_verdict.proofs.table_misses.missed_scopes.Given as goal

-- what the tables that are left add, all of them add
abbrev pub invariant-loop-table : goal.invariant-loop-table
invariant-loop-table g l =
    (now : Paths) → Grows l.missed now (λ (p : List Segment). IsMissedScope (map notes_of (drop l.table-index l.notes)) p × IsTrue (is_defined (g.T.Space.contents l.among) p))
    → Grows empty now (λ (p : List Segment). IsMissedScope (map notes_of l.notes) p × IsTrue (is_defined (g.T.Space.contents l.among) p))
