use Rattle.std.proofs.Common.{◌≡◌, ◌++◌, true, drop}
use Rattle.acpins_survey_json.specs.JsonFound.{note_value}
use Rattle.acpins_survey_json.specs.Json.{lines_behind, values_of}
use Rattle.acpins_survey_json.proofs.found.put_notes.Given as goal

-- the elements so far and those that are left
abbrev pub invariant-loop-note : goal.invariant-loop-note
invariant-loop-note l =
    l.text ++ lines_behind l.is_first (values_of note_value (drop l.note-index l.notes)) ≡ l.initial.text ++ lines_behind true (values_of note_value l.notes)
