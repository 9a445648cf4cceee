-- What is lost, refused and noticed in tables that were read one after another (ACPI 6.5, 5.2.6, 5.3 and 20.2.5).
use Rattle.std.specs.Prelude.{◌≡◌, ◌+◌, ℕ, List, [], ◌∷◌, ◌++◌}
use Rattle.acpi_space.specs.Laws.{Among}
use Rattle.acpi_outline.specs.View.{nodes_view}
use Rattle.acpi_conditions.specs.Entries.{Why, Refusal}
use Rattle.acpi_ranges.specs.Ranges.{Entered}
use Rattle.acpi_findings.specs.Problems.{ProblemParts, refused, table_problems}
use Rattle.acpi_ranges.specs.Index.{Refusals, Unknowns, entered_in, refusals_in, unknowns_in}
use Rattle.acpi_ranges.specs.Sites.{site_at}
use Rattle.acpi_findings.specs.Notes.{table_notes}
use Rattle.acpi_findings.specs.declared.notes.Note.{Note}
use Rattle.acpi_survey.specs.Reading.{Reading}
use Rattle.acpi_survey.specs.Predefined.{first_reading}
use Rattle.acpi_survey.specs.Survey.{place_in}
use Rattle.acpi_survey.specs.Surveys.{AreTables}
use Rattle.acpi_survey.specs.declared.machine_survey.SurveyedTable.{SurveyedTable}

-- of tables from a number on, by what is entered in each
abbrev pub problems_by : (ℕ → Entered) → Refusals → (number : ℕ) → List SurveyedTable
    → List ProblemParts
problems_by entered refusals number [] = []
problems_by entered refusals number (t ∷ ts) =
    table_problems (entered number) refusals number t.bytes t.judged (nodes_view t.nodes)
    ++ problems_by entered refusals (number + 1) ts

abbrev pub notes_by : (ℕ → Entered) → Unknowns → (number : ℕ) → List SurveyedTable → List Note
notes_by entered unknowns number [] = []
notes_by entered unknowns number (t ∷ ts) = table_notes (entered number) unknowns number t.judged
    (nodes_view t.nodes) ++ notes_by entered unknowns (number + 1) ts

-- ---- by what is known behind all tables

abbrev pub problems_in : Reading → List SurveyedTable → List ProblemParts
problems_in s ts = problems_by (entered_in s) (refusals_in s) 0 ts

abbrev pub notes_in : Reading → List SurveyedTable → List Note
notes_in s ts = notes_by (entered_in s) (unknowns_in s) 0 ts

-- ---- laws

-- the problem tells the refusal, and where it stands
pub record TellsRefusal (r : Refusal) (p : ProblemParts) : Type 0 where
  pub reason : p.reason ≡ refused r.why
  pub place : (place : ℕ) × (r.place ≡ place_in p.site.table place)
      × (p.site ≡ site_at p.site.table place)

-- each refusal of tables that are read one after another is a problem of them
abbrev pub EachRefusalIsTold : Type 0
EachRefusalIsTold =
    (depth : ℕ) (ts : List SurveyedTable) (last : Reading) → AreTables depth 0 first_reading ts last
    → (r : Refusal) → Among last.walk.refused r
    → (p : ProblemParts) × Among (problems_in last ts) p × TellsRefusal r p

-- and no other is
abbrev pub OnlyRefusalsAreTold : Type 0
OnlyRefusalsAreTold = (s : Reading) (ts : List SurveyedTable) (p : ProblemParts) (why : Why)
    → Among (problems_in s ts) p → p.reason ≡ refused why
    → (r : Refusal) × Among s.walk.refused r × (r.why ≡ why) × TellsRefusal r p
