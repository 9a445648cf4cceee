use Rattle.acpi_body_notes.proofs.NoteLists.{notes_next}
use Rattle.acpi_body_notes.proofs.notes.notes_of.Goals as goal

pub each-preserved : goal.each-preserved
each-preserved c =
    notes_next c.args.survey.now.reading.walk.entries c.args.numbers.now c.each.number-index c.each-test.true c.each.found.items _ _ c.in_ok-put_note.ensures c.each.invariant
