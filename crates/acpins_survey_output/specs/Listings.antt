-- What `list` prints of a survey (ACPI 6.5, 5.3).
use Rattle.std.specs.Prelude.{◌≡◌, ℕ, List, ◌++◌, map}
use Rattle.std.specs.List.{flat_map}
use Rattle.acpi_conditions.specs.ByPath.{AreByPath}
use Rattle.acpi_conditions.specs.Entries.{Path, Entry}
use Rattle.acpi_findings.specs.declared.findings.Findings.{Findings}
use Rattle.acpi_survey.specs.declared.machine_survey.Survey.{Survey}
use Rattle.acpi_objects.specs.Declaring.{object_of}
use Rattle.acpins_survey_output.specs.Entries.{entry_line}
use Rattle.acpins_survey_output.specs.Found.{found_text}
use Rattle.acpins_survey_reasons.specs.Numbered.{condition_of, entries_of, links_of, part_of}

-- ---- one entry, by its number

-- the line of the entry of that number, which has that path
abbrev pub numbered_line : Survey → Path → ℕ → List ℕ
numbered_line s p n = entry_line p (object_of (part_of s n) n) (links_of s n) (condition_of s n)

-- ---- all of them

-- The text is a line for each entry, in the order of the paths, those of one path in the order of their places; and
-- then a line for each problem and note.
pub record IsListing (s : Survey) (f : Findings) (text : List ℕ) : Type 0 where
  pub order : List (Path × ℕ)
  pub by_path : AreByPath (map (λ (e : Entry). e.path) (entries_of s)) order
  pub text_is : text
      ≡ flat_map (λ (x : Path × ℕ). numbered_line s x.0 x.1) order
      ++ found_text f.problems.items f.notes.items
