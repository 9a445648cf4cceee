use Rattle.std.proofs.Common.{◌≡◌, ◌++◌, true, drop}
use Rattle.acpins_survey_json.specs.Json.{lines_behind}
use Rattle.acpins_survey_json.specs.JsonTables.{table_values}
use Rattle.acpins_survey_json.proofs.tables.put_tables.Given as goal

-- the elements so far and those that are left
abbrev pub invariant-loop-number : goal.invariant-loop-number
invariant-loop-number l =
    l.text ++ lines_behind l.is_first (table_values l.number (drop l.number l.tables)) ≡ l.initial.text ++ lines_behind true (table_values 0 l.tables)
