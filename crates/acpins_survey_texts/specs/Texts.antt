-- What commands print of tables.
use Rattle.std.specs.Prelude.{◌≡◌, ◌⊎◌, ◌↔◌, ◌++◌, ℕ, false, List, [], map, nat_eq, Option, Some, None}
use Rattle.acpi_name.specs.Names.{Segment}
use Rattle.acpi_name.specs.Text.{SpellsPathText}
use Rattle.acpi_body_notes.specs.LoadNotes.{AreSurveyNotes}
use Rattle.acpi_findings.specs.Findings.{problems_in}
use Rattle.acpi_findings.specs.ProblemViews.{problem_view}
use Rattle.acpi_same.specs.Same.{TellsSame}
use Rattle.acpi_survey.specs.Surveys.{IsSurvey}
use Rattle.acpi_findings.specs.declared.findings.Findings.{Findings}
use Rattle.acpi_survey.specs.declared.machine_survey.Survey.{Survey}
use Rattle.acpins_survey_json.specs.JsonFrame.{IsSurveyJson}
use Rattle.acpins_survey_output.specs.Listings.{IsListing}
use Rattle.acpins_survey_output.specs.Maps.{map_text}
use Rattle.acpins_survey_output.specs.Shown.{IsBodyListing, IsShownOrNone}
use Rattle.acpins_survey_uses.specs.Nothing.{HasNoEntry}
use Rattle.acpins_page.specs.Page.{IsPage}
use Rattle.acpins_page.specs.declared.style.TheConstants.{HEAD}
use Rattle.acpins_survey_words.specs.Words.{Command, listing, showing, using, mapping, telling_bodies, checking, differing, json, paging}
use Rattle.acpins_survey_run.specs.Machines.{Machines}

-- These findings tell what is lost, refused and noticed in the tables of a survey, and noticed in the bodies of their
-- methods.
pub record AreFindings (s : Survey) (f : Findings) : Type 0 where
  pub problems : map problem_view f.problems.items ≡ problems_in s.reading s.tables.items
  pub notes : AreSurveyNotes s f.notes.items

-- What `json` prints begins with all that the survey says. Behind it stand other members, of which nothing is said: what
-- methods declare, uses of names, what checks find, devices and regions.
pub record IsJson (s : Survey) (f : Findings) (text : List ℕ) : Type 0 where
  pub front : List ℕ
  pub rest : List ℕ
  pub is : IsSurveyJson s f front
  pub text_is : text ≡ front ++ rest

-- The text that a command makes of a survey and its findings. Nothing is said of `report`, of `uses`, of `check`, of `diff`, and of
-- `list` with what methods declare; of `html`, what its page is made of, in which all that comes from tables is escaped.
abbrev pub IsTextOf : Command → Survey → Findings → List ℕ → Type 0
IsTextOf (listing false) s f text = IsListing s f text
IsTextOf (showing word) s f text =
    (path : List Segment) × SpellsPathText path word × IsShownOrNone s path (Some text)
IsTextOf mapping s f text = text ≡ map_text s
IsTextOf telling_bodies s f text = IsBodyListing s text
IsTextOf json s f text = IsJson s f text
IsTextOf (paging out) s f text = IsPage HEAD.now text
IsTextOf _ s f text = Unit {0}

-- the word of `show` spells a path at which no object may be, or that of `uses` one at and below which no entry is
abbrev pub HasNothingAt : Command → Survey → Type 0
HasNothingAt (showing word) s =
    (path : List Segment) × SpellsPathText path word × IsShownOrNone s path None
HasNothingAt (using (Some word)) s =
    (path : List Segment) × SpellsPathText path word × HasNoEntry s path
HasNothingAt _ s = ⊥

-- the status of a command is 0 where nothing in the tables is lost or refused, but that of `check`, which goes by all that it
-- finds, and that of `diff`
abbrev pub TellsProblems : Command → Findings → ℕ → Type 0
TellsProblems (checking is_verbose ignored) f status = Unit {0}
TellsProblems (differing is_verbose) f status = Unit {0}
TellsProblems _ f status = (status ≡ 0) ↔ (f.problems.items ≡ [])

-- The status of `diff` is 0 exactly where the survey of a machine and that of a second one say the same, but for where it stands.
abbrev pub TellsDiffering : Command → (depth : ℕ) → Survey → Option (List (List ℕ))
    → (status : ℕ) → Type 0
TellsDiffering (differing is_verbose) depth s (Some tables) status =
    (new : Survey) × IsSurvey depth tables new × TellsSame s new (nat_eq status 0)
TellsDiffering _ depth s second status = Unit {0}

-- what a command makes of the tables of machines, and its status, 0 or 3
pub record IsMade (command : Command) (depth : ℕ) (machines : Machines) (status : ℕ)
    (text : List ℕ) : Type 0 where
  pub survey : Survey
  pub is : IsSurvey depth machines.first survey
  pub findings : Findings
  pub told : AreFindings survey findings
  pub made : IsTextOf command survey findings text
  pub status_is : (status ≡ 0) ⊎ (status ≡ 3)
  pub problems : TellsProblems command findings status
  pub differing : TellsDiffering command depth survey machines.second status

-- the word of `show` or `uses` spells a path at which these tables have nothing
abbrev pub HasNothingIn : Command → ℕ → Machines → Type 0
HasNothingIn command depth machines =
    (s : Survey) × IsSurvey depth machines.first s × HasNothingAt command s
