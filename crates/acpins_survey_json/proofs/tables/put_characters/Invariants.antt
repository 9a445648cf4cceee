use Rattle.std.proofs.Common.{◌≡◌, ◌++◌, take}
use Rattle.std.specs.List.{flat_map}
use Rattle.acpi_text.specs.Constants.{char_text}
use Rattle.acpins_survey_json.proofs.tables.put_characters.Given as goal

abbrev pub invariant-loop-b : goal.invariant-loop-b
invariant-loop-b l = l.text ≡ l.initial.text ++ flat_map char_text (take l.b-index l.bytes)
