use Rattle.acpins_survey_json.specs.JsonFound.{note_value}
use Rattle.acpins_survey_json.proofs.JsonPutting.{line_more, lines_all}
use Rattle.acpins_survey_json.proofs.found.put_notes.Goals as goal

pub loop-note-preserved : goal.loop-note-preserved
loop-note-preserved c =
    line_more note_value c.args.notes.now c.loop-note.note-index c.note-item.result c.note-item.result c.loop-note.is_first c.loop-note.text
    c.put_line_start.new.text _ _ c.loop-note-test.true c.note-item.is c.put_line_start.ensures c.put_note.ensures c.loop-note.invariant

pub returns : goal.returns
returns c =
    lines_all note_value c.args.notes.now c.loop-note.note-index c.loop-note.is_first c.args.text.now c.put.new.self c.loop-note.text _
    c.loop-note-test.false c.put.ensures c.loop-note.invariant c.put_lines_end.ensures
