use Rattle.std.proofs.Common.{◌≡◌, ◌++◌, drop}
use Rattle.acpins_survey_json.specs.JsonValues.{path_value}
use Rattle.acpins_survey_json.specs.Json.{values_behind, values_of, values_text}
use Rattle.acpins_survey_json.proofs.values.put_path_texts.Given as goal

-- the elements so far and those that are left
abbrev pub invariant-loop-path : goal.invariant-loop-path
invariant-loop-path l =
    l.text ++ values_behind l.is_first (values_of path_value (drop l.path-index l.paths)) ≡ l.initial.text ++ values_text (values_of path_value l.paths)
