use Rattle.std.proofs.Common.{◌≡◌, ◌++◌, true, drop}
use Rattle.acpins_survey_json.specs.JsonFound.{problem_value}
use Rattle.acpins_survey_json.specs.Json.{lines_behind, values_of}
use Rattle.acpins_survey_json.proofs.found.put_problems.Given as goal

-- the elements so far and those that are left
abbrev pub invariant-loop-problem : goal.invariant-loop-problem
invariant-loop-problem l =
    l.text ++ lines_behind l.is_first (values_of problem_value (drop l.problem-index l.problems)) ≡ l.initial.text ++ lines_behind true (values_of problem_value l.problems)
