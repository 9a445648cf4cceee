-- What is found in tables by the code's maps is what is known behind all tables.
use Rattle.std.proofs.Common.{◌≡◌, ℕ, List, ◌∷◌, ◌++◌, ◌≤◌, ◌+◌, length, drop, sym, ap, ◌∙◌, append-nil, append_assoc}
use Rattle.std.proofs.lemmas.List.{drop_all}
use Rattle.acpi_outline.specs.View.{nodes_view}
use Rattle.acpi_survey.specs.Reading.{Reading}
use Rattle.acpi_survey.specs.declared.machine_survey.SurveyedTable.{SurveyedTable}
use Rattle.acpi_ranges.specs.Index.{Refusals, Unknowns, entered_in, refusals_in, unknowns_in}
use Rattle.acpi_ranges.specs.Ranges.{Entered}
use Rattle.acpi_ranges.specs.steps.Indexes.{index_entered, index_refusals, index_unknowns}
use Rattle.acpi_ranges.specs.declared.index.PlaceIndex.{PlaceIndex}
use Rattle.acpi_findings.specs.Findings.{notes_by, notes_in, problems_by, problems_in}
use Rattle.acpi_findings.specs.Notes.{table_notes}
use Rattle.acpi_findings.specs.declared.notes.Note.{Note}
use Rattle.acpi_findings.specs.Problems.{ProblemParts, table_problems}

-- the problems of tables by an index are those by what is known
pub problems_are : (x : PlaceIndex) (s : Reading) (ts : List SurveyedTable)
    → ((n place : ℕ) → index_entered x n place ≡ entered_in s n place) → ((place : ℕ) → index_refusals x place ≡ refusals_in s place)
    → problems_by (index_entered x) (index_refusals x) 0 ts ≡ problems_in s ts
problems_are x s ts paths refused = λ i. problems_by (λ n place. paths n place i) (λ place. refused place i) 0 ts

-- and so are their notes
pub notes_are : (x : PlaceIndex) (s : Reading) (ts : List SurveyedTable)
    → ((n place : ℕ) → index_entered x n place ≡ entered_in s n place) → ((place : ℕ) → index_unknowns x place ≡ unknowns_in s place)
    → notes_by (index_entered x) (index_unknowns x) 0 ts ≡ notes_in s ts
notes_are x s ts paths unknown = λ i. notes_by (λ n place. paths n place i) (λ place. unknown place i) 0 ts

-- ---- table by table

pub problems_next : (entered : ℕ → Entered) (refusals : Refusals) (n : ℕ) (t : SurveyedTable) (here rest : List SurveyedTable) (old new all : List ProblemParts)
    → here ≡ t ∷ rest → new ≡ old ++ table_problems (entered n) refusals n t.bytes t.judged (nodes_view t.nodes)
    → old ++ problems_by entered refusals n here ≡ all → new ++ problems_by entered refusals (n + 1) rest ≡ all
problems_next entered refusals n t here rest old new all here_is new_is before =
    let added : List ProblemParts = table_problems (entered n) refusals n t.bytes t.judged (nodes_view t.nodes) in
    let behind : List ProblemParts = problems_by entered refusals (n + 1) rest in
    ap (λ (ps : List ProblemParts). ps ++ behind) new_is
    ∙ append_assoc old added behind
    ∙ ap (λ (ts : List SurveyedTable). old ++ problems_by entered refusals n ts) (sym here_is)
    ∙ before

pub notes_next : (entered : ℕ → Entered) (unknowns : Unknowns) (n : ℕ) (t : SurveyedTable) (here rest : List SurveyedTable) (old new all : List Note)
    → here ≡ t ∷ rest → new ≡ old ++ table_notes (entered n) unknowns n t.judged (nodes_view t.nodes)
    → old ++ notes_by entered unknowns n here ≡ all → new ++ notes_by entered unknowns (n + 1) rest ≡ all
notes_next entered unknowns n t here rest old new all here_is new_is before =
    let added : List Note = table_notes (entered n) unknowns n t.judged (nodes_view t.nodes) in
    let behind : List Note = notes_by entered unknowns (n + 1) rest in
    ap (λ (ns : List Note). ns ++ behind) new_is
    ∙ append_assoc old added behind
    ∙ ap (λ (ts : List SurveyedTable). old ++ notes_by entered unknowns n ts) (sym here_is)
    ∙ before

pub problems_all : (entered : ℕ → Entered) (refusals : Refusals) (n : ℕ) (ts : List SurveyedTable) (found all : List ProblemParts) → length ts ≤ n
    → found ++ problems_by entered refusals n (drop n ts) ≡ all → found ≡ all
problems_all entered refusals n ts found all is before =
    sym (ap (λ (us : List SurveyedTable). found ++ problems_by entered refusals n us) (drop_all n ts is) ∙ append-nil found) ∙ before

pub notes_all : (entered : ℕ → Entered) (unknowns : Unknowns) (n : ℕ) (ts : List SurveyedTable) (found all : List Note) → length ts ≤ n
    → found ++ notes_by entered unknowns n (drop n ts) ≡ all → found ≡ all
notes_all entered unknowns n ts found all is before =
    sym (ap (λ (us : List SurveyedTable). found ++ notes_by entered unknowns n us) (drop_all n ts is) ∙ append-nil found) ∙ before
