-- What `json` prints of a survey.
use Rattle.std.specs.Prelude.{◌≡◌, ◌++◌, ℕ, List, Option, codes, map}
use Rattle.std.specs.List.{All, AllZip}
use Rattle.acpi_conditions.specs.ByPath.{AreByPath}
use Rattle.acpi_conditions.specs.Entries.{Path, Entry}
use Rattle.acpi_condition_list.specs.ConditionLists.{Conditioned, IsCondition, conditioned_view, numbered_pair}
use Rattle.acpi_condition_list.specs.declared.list.ConditionStep.{ConditionStep}
use Rattle.acpi_condition_list.specs.declared.list.ConditionedEntry.{ConditionedEntry}
use Rattle.acpi_entries.specs.declared.body.MethodBody.{MethodBody}
use Rattle.acpi_findings.specs.declared.findings.Findings.{Findings}
use Rattle.acpi_survey.specs.declared.machine_survey.Survey.{Survey}
use Rattle.acpins_survey_json.specs.Json.{string, array, Members, no_members, member, values_of, elements, object_front}
use Rattle.acpins_survey_json.specs.JsonBodies.{body_values}
use Rattle.acpins_survey_json.specs.JsonConditions.{step_value}
use Rattle.acpins_survey_json.specs.JsonEntries.{entry_value}
use Rattle.acpins_survey_json.specs.JsonFound.{note_value, problem_value}
use Rattle.acpins_survey_json.specs.JsonTables.{table_values}
use Rattle.acpins_survey_json.specs.JsonValues.{number_value}
use Rattle.acpins_survey_reasons.specs.Numbered.{IsBodyAt, condition_of, entries_of, zip_text}

-- what a survey says: entries in an order, the bodies of those that have one, and the literals of their conditions
abbrev pub survey_members : Survey → Findings → List Conditioned → List (Option MethodBody)
    → List ConditionStep → Members
survey_members s f es bodies steps =
    member (codes "format") (string (codes "acpins-survey 2"))
    (member (codes "depth") (number_value s.depth)
    (member (codes "tables") (array (table_values 0 s.tables.items))
    (member (codes "entries") (array (values_of (entry_value s) es))
    (member (codes "bodies")
    (array (elements (zip_text (body_values s) (map numbered_pair es) bodies)))
    (member (codes "problems") (array (values_of problem_value f.problems.items))
    (member (codes "notes") (array (values_of note_value f.notes.items))
    (member (codes "conditions") (array (values_of (step_value s) steps)) no_members)))))))

-- The text begins an object with all that the survey says; other members may follow. Entries are in the order of the
-- paths, those of one path in the order of their places, and bodies of methods in that order too. The condition of each
-- entry is made of the literal whose number it has, and those before it.
pub record IsSurveyJson (s : Survey) (f : Findings) (text : List ℕ) : Type 0 where
  pub entries : List ConditionedEntry
  pub by_path : AreByPath (map (λ (e : Entry). e.path) (entries_of s))
      (map numbered_pair (map conditioned_view entries))
  pub steps : List ConditionStep
  pub are_conditions : All (λ e. IsCondition s steps e.condition (condition_of s e.number)) entries
  pub bodies : List (Option MethodBody)
  pub are_bodies : AllZip (λ (x : Path × ℕ) b. IsBodyAt s x.1 b)
      (map numbered_pair (map conditioned_view entries)) bodies
  pub text_is : text ≡ object_front (survey_members s f (map conditioned_view entries) bodies steps)

-- behind what stood there before
abbrev pub PutsSurvey : Survey → Findings → (old new : List ℕ) → Type 0
PutsSurvey s f old new = (text : List ℕ) × (new ≡ old ++ text) × IsSurveyJson s f text
