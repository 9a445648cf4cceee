use Rattle.std.proofs.Common.{◌≡◌, ◌++◌}
use Rattle.std.specs.Vec.Iter.{into_iter_items}
use Rattle.acpi_findings.proofs.findings.Findings.add_notes.Given as goal

-- the notes so far, and those that are left
abbrev pub invariant-each : goal.invariant-each
invariant-each l =
    (l.self.problems ≡ l.initial.self.problems)
    × (l.self.notes.items ++ into_iter_items l.note-iterator ≡ l.initial.self.notes.items ++ into_iter_items l.initial.note-iterator)
