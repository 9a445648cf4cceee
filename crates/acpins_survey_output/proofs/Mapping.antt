-- What each byte belongs to, line by line.
use Rattle.std.proofs.Common.{◌≡◌, ◌∙◌, ℕ, suc, ◌+◌, ◌≤◌, List, [], ◌∷◌, ◌++◌, length, drop, codes, add-one, append_assoc, append-nil, sym, ap}
use Rattle.std.proofs.lemmas.List.{drop_all}
use Rattle.acpi_outline.specs.View.{nodes_view}
use Rattle.acpi_text.proofs.Pieces.{next_said}
use Rattle.acpi_ranges.specs.Index.{entered_in, refusals_in}
use Rattle.acpi_ranges.specs.Index.{Refusals}
use Rattle.acpi_ranges.specs.Ranges.{Entered}
use Rattle.acpi_ranges.specs.declared.index.PlaceIndex.{PlaceIndex}
use Rattle.acpi_survey.specs.declared.machine_survey.Survey.{Survey}
use Rattle.acpi_survey.specs.declared.machine_survey.SurveyedTable.{SurveyedTable}
use Rattle.acpi_ranges.specs.steps.Indexes.{index_entered, index_refusals}
use Rattle.acpins_survey_output.specs.Maps.{indent, map_by, map_text, table_lines, table_parts}

-- ---- lines

pub indent_more : (n : ℕ) (old mid new : List ℕ) → mid ≡ old ++ indent n → new ≡ mid ++ codes "  " → new ≡ old ++ indent (n + 1)
indent_more n old mid new before last = next_said old (indent n) (codes "  ") mid new before last ∙ ap (λ k. old ++ indent k) (sym (add-one n))

-- ---- tables

pub table_more : (entered : ℕ → Entered) (refusals : Refusals) (n : ℕ) (t : SurveyedTable) (here rest : List SurveyedTable) (mid new whole : List ℕ) → here ≡ t ∷ rest
    → new ≡ mid ++ table_lines (table_parts entered refusals n) t.bytes t.judged (nodes_view t.nodes)
    → mid ++ map_by entered refusals n here ≡ whole → new ++ map_by entered refusals (n + 1) rest ≡ whole
table_more entered refusals n t here rest mid new whole is last before =
    let lines : List ℕ = table_lines (table_parts entered refusals n) t.bytes t.judged (nodes_view t.nodes) in
    let behind : List ℕ = map_by entered refusals (n + 1) rest in
    ap (λ (text : List ℕ). text ++ behind) last
    ∙ append_assoc mid lines behind
    ∙ ap (λ (ts : List SurveyedTable). mid ++ map_by entered refusals n ts) (sym is)
    ∙ before

pub tables_all : (entered : ℕ → Entered) (refusals : Refusals) (n : ℕ) (ts : List SurveyedTable) (text whole : List ℕ) → length ts ≤ n
    → text ++ map_by entered refusals n (drop n ts) ≡ whole → text ≡ whole
tables_all entered refusals n ts text whole past before =
    sym (ap (λ (us : List SurveyedTable). text ++ map_by entered refusals n us) (drop_all n ts past) ∙ append-nil text) ∙ before

-- by the code's index, and by what is known behind all tables
pub map_is : (x : PlaceIndex) (s : Survey) → ((n place : ℕ) → index_entered x n place ≡ entered_in s.reading n place)
    → ((place : ℕ) → index_refusals x place ≡ refusals_in s.reading place) → map_by (index_entered x) (index_refusals x) 0 s.tables.items ≡ map_text s
map_is x s paths refused = λ i. map_by (λ n place. paths n place i) (λ place. refused place i) 0 s.tables.items
