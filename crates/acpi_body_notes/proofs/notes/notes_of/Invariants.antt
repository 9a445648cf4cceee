use Rattle.std.proofs.Common.{◌≡◌, ◌++◌, drop}
use Rattle.acpi_body_notes.specs.LoadNotes.{load_notes}
use Rattle.acpi_body_notes.proofs.notes.notes_of.Given as goal

-- the notes so far, and those of the numbers that are left
abbrev pub invariant-each : goal.invariant-each
invariant-each l =
    l.found.items ++ load_notes l.survey.reading.walk.entries (drop l.number-index l.numbers) ≡ load_notes l.survey.reading.walk.entries l.numbers
