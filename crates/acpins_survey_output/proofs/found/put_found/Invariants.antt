use Rattle.std.proofs.Common.{◌≡◌, ◌++◌, drop}
use Rattle.acpins_survey_output.specs.Found.{found_text}
use Rattle.acpins_survey_output.proofs.found.put_found.Given as goal

-- the lines so far, and those of what is left
abbrev pub invariant-loop-problem : goal.invariant-loop-problem
invariant-loop-problem l =
    l.text ++ found_text (drop l.problem-index l.problems) l.rest ≡ l.initial.text ++ found_text l.problems l.notes
