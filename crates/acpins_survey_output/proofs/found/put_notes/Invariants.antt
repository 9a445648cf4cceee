use Rattle.std.proofs.Common.{◌≡◌, ◌++◌, take}
use Rattle.std.specs.List.{flat_map}
use Rattle.acpins_survey_output.specs.Found.{note_line}
use Rattle.acpins_survey_output.proofs.found.put_notes.Given as goal

abbrev pub invariant-loop-note : goal.invariant-loop-note
invariant-loop-note l = l.text ≡ l.initial.text ++ flat_map note_line (take l.note-index l.notes)
