use Rattle.std.proofs.Common.{◌≡◌, ◌++◌, length}
use Rattle.acpins_survey_output.specs.Found.{notes_before, notes_behind}
use Rattle.acpins_survey_output.proofs.found.put_notes_before.Given as goal

-- the lines so far and those of the notes that are left
abbrev pub invariant-loop-rest : goal.invariant-loop-rest
invariant-loop-rest l =
    (l.text ++ notes_before l.problem l.rest ≡ l.initial.text ++ notes_before l.problem l.notes)
    × (notes_behind l.problem l.rest ≡ notes_behind l.problem l.notes)

abbrev pub decreases-loop-rest : goal.decreases-loop-rest
decreases-loop-rest l = length l.rest
