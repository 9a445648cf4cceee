-- What `show` and `bodies` print of a survey (ACPI 6.5, 20.2.5.2).
use Rattle.std.specs.Prelude.{◌≡◌, ℕ, List, [], ◌++◌, Option, Some, None, map}
use Rattle.std.specs.List.{AllZip}
use Rattle.acpi_conditions.specs.Entries.{Path, Entry}
use Rattle.acpi_survey.specs.Surveys.{numbers_at}
use Rattle.acpi_entries.specs.declared.body.MethodBody.{MethodBody}
use Rattle.acpi_survey.specs.declared.machine_survey.Survey.{Survey}
use Rattle.acpins_survey_output.specs.Bodies.{body_text, method_line}
use Rattle.acpi_conditions.specs.ByPath.{AreByPath}
use Rattle.acpins_survey_output.specs.Listings.{numbered_line}
use Rattle.acpins_survey_reasons.specs.Numbered.{IsBodyAt, entries_of, zip_text}

-- ---- show

abbrev pub body_lines : Option MethodBody → List ℕ
body_lines None = []
body_lines (Some b) = body_text b

-- the line of an entry, and the lines of its body
abbrev pub shown_lines : Survey → Path → ℕ → Option MethodBody → List ℕ
shown_lines s p n b = numbered_line s p n ++ body_lines b

-- the text has them for each entry at the path, in the order of the numbers
pub record IsShown (s : Survey) (p : Path) (text : List ℕ) : Type 0 where
  pub bodies : List (Option MethodBody)
  pub are_bodies : AllZip (IsBodyAt s) (numbers_at p (entries_of s)) bodies
  pub text_is : text ≡ zip_text (shown_lines s p) (numbers_at p (entries_of s)) bodies

-- .. or no entry is there
abbrev pub IsShownOrNone : Survey → Path → Option (List ℕ) → Type 0
IsShownOrNone s p None = numbers_at p (entries_of s) ≡ []
IsShownOrNone s p (Some text) = IsShown s p text

-- ---- bodies

-- the line of a method; none of another entry
abbrev pub verdict_line : Path × ℕ → Option MethodBody → List ℕ
verdict_line x None = []
verdict_line x (Some b) = method_line x.0 b

-- the text has them for each entry, in the order of the paths
pub record IsBodyListing (s : Survey) (text : List ℕ) : Type 0 where
  pub order : List (Path × ℕ)
  pub by_path : AreByPath (map (λ (e : Entry). e.path) (entries_of s)) order
  pub bodies : List (Option MethodBody)
  pub are_bodies : AllZip (λ (x : Path × ℕ) b. IsBodyAt s x.1 b) order bodies
  pub text_is : text ≡ zip_text verdict_line order bodies
