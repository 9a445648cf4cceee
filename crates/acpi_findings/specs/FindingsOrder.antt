-- What is found in tables stands in the order of the sites (ACPI 6.5, 5.2.6, 5.2.11 and 20.2.5).
use Rattle.std.specs.Prelude.{ℕ, List}
use Rattle.std.specs.List.Sorted.{IsNonDecreasingBy, IsPermutation, IsStableByKey}
use Rattle.std.specs.Ordering.{nat_cmp}
use Rattle.acpi_survey.specs.Predefined.{first_reading}
use Rattle.acpi_survey.specs.Reading.{Reading}
use Rattle.acpi_survey.specs.Survey.{place_in}
use Rattle.acpi_survey.specs.Surveys.{AreTables}
use Rattle.acpi_survey.specs.declared.machine_survey.SurveyedTable.{SurveyedTable}
use Rattle.acpi_ranges.specs.declared.sites.Site.{Site}
use Rattle.acpi_findings.specs.Findings.{notes_in, problems_in}
use Rattle.acpi_findings.specs.Problems.{ProblemParts}
use Rattle.acpi_findings.specs.declared.notes.Note.{Note}

-- the table's number and the offset, a number of 64 bits, as one number
abbrev pub site_number : Site → ℕ
site_number s = place_in s.table s.offset

abbrev pub note_number : Note → ℕ
note_number n = site_number n.site

-- each of the notes stands there once, by its site, and those of one site as they stood
pub record AreBySite (notes ordered : List Note) : Type 0 where
  pub each : IsPermutation notes ordered
  pub ascending : IsNonDecreasingBy note_number ordered
  pub stable : IsStableByKey note_number nat_cmp notes ordered

-- ---- laws

abbrev pub NotesStandInOrder : Type 0
NotesStandInOrder =
    (depth : ℕ) (last : Reading) (ts : List SurveyedTable) → AreTables depth 0 first_reading ts last
    → IsNonDecreasingBy (λ (n : Note). site_number n.site) (notes_in last ts)

abbrev pub ProblemsStandInOrder : Type 0
ProblemsStandInOrder =
    (depth : ℕ) (last : Reading) (ts : List SurveyedTable) → AreTables depth 0 first_reading ts last
    → IsNonDecreasingBy (λ (p : ProblemParts). site_number p.site) (problems_in last ts)
