use Rattle.std.proofs.Common.{List, drop}
use Rattle.std.specs.Prelude.{IsTrue}
use Rattle.acpi_name.specs.Names.{Segment}
use Rattle.acpi_space.specs.Laws.{Among}
use Rattle.acpi_space.specs.Spaces.{is_defined}
use Rattle.acpi_body.specs.steps.Gathering.{Paths, Grows}
use Rattle.acpi_verdict.proofs.table_misses.add_among.Given as goal

-- what the paths that are left add, all of them add
abbrev pub invariant-loop-path : goal.invariant-loop-path
invariant-loop-path g l =
    (now : Paths) → Grows l.missed now (λ (p : List Segment). Among (drop l.path-index l.paths) p × IsTrue (is_defined (g.T.Space.contents l.among) p))
    → Grows l.initial.missed now (λ (p : List Segment). Among l.paths p × IsTrue (is_defined (g.T.Space.contents l.among) p))
