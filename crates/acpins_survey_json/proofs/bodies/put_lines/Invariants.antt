use Rattle.std.proofs.Common.{◌≡◌, ◌++◌, [], drop}
use Rattle.acpins_survey_json.specs.Json.{string, values_behind, values_of, values_text}
use Rattle.acpins_survey_json.specs.JsonBodies.{lines_from}
use Rattle.acpins_survey_json.proofs.bodies.put_lines.Given as goal

-- the lines so far, and those that are left behind the beginning of one
abbrev pub invariant-loop-character : goal.invariant-loop-character
invariant-loop-character l =
    l.text ++ values_behind l.is_first (values_of string (lines_from l.line (drop l.character-index l.lines)))
    ≡ l.initial.text ++ values_text (values_of string (lines_from [] l.lines))
