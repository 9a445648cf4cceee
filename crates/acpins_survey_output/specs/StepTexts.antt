-- Literals of conditions in words, by what they come from (ACPI 6.5, 5.3 and 19.6).
use Rattle.std.specs.Prelude.{ℕ, List, [], ◌++◌, Option, codes, unwrap_or}
use Rattle.std.specs.Option.{option_map}
use Rattle.acpi_condition_list.specs.ConditionLists.{source_literal}
use Rattle.acpi_condition_list.specs.declared.list.ConditionStep.{ConditionStep}
use Rattle.acpi_condition_list.specs.declared.sources.LiteralSource.{LiteralSource}
use Rattle.acpi_entries.specs.Condition.{PlacedParts}
use Rattle.acpi_survey.specs.declared.machine_survey.Survey.{Survey}
use Rattle.acpins_survey_output.specs.Conditions.{literal_text}
use Rattle.acpins_survey_output.specs.declared.condition_steps.StepText.{StepText}

-- a literal behind a blank; nothing where there is none
abbrev pub some_text : Option PlacedParts → List ℕ
some_text placed = unwrap_or (option_map (λ l. codes " " ++ literal_text l) placed) []

-- .. that comes from there
abbrev pub source_text : Survey → LiteralSource → List ℕ
source_text s x = some_text (source_literal s x)

-- .. and the number of the literal before it
abbrev pub step_text : Survey → ConditionStep → StepText
step_text s x = record { before = x.before; text = source_text s x.source }
