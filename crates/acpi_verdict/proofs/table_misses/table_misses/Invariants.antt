use Rattle.std.proofs.Common.{map, drop}
use Rattle.acpi_declare.specs.Namespace.{namespace_of}
use Rattle.acpi_declare.specs.Notes.{notes_of}
use Rattle.acpi_space.specs.Spaces.{is_defined}
use Rattle.acpi_order.specs.steps.Noted.{all_noted}
use Rattle.acpi_verdict.specs.declared.misses.Misses.{Misses}
use Rattle.acpi_verdict.specs.steps.Misses.{AddsMethods}
use Rattle.acpi_verdict.proofs.table_misses.table_misses.Given as goal

-- what the tables that are left add, all of them add
abbrev pub invariant-loop-notes : goal.invariant-loop-notes
invariant-loop-notes g l =
    (now : Misses)
    → AddsMethods (is_defined (g.T.Space.contents l.among)) l.depth (namespace_of (g.O.Space.contents l.objects)) (all_noted (map notes_of (drop l.notes-index l.notes-items))) l.misses now
    → AddsMethods (is_defined (g.T.Space.contents l.among)) l.depth (namespace_of (g.O.Space.contents l.objects)) (all_noted (map notes_of l.notes-items)) l.initial.misses now
