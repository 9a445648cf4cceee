-- The survey of strict tables has no problem and no note.
use Rattle.std.proofs.Common.{◌≡◌, ◌∙◌, ◌+◌, ℕ, suc, false, List, [], ◌∷◌, ◌++◌, map, length, Option, Some, None, ap, refl, add-one}
use Rattle.std.specs.Option.{option_to_list}
use Rattle.std.specs.List.{flat_map, AllZip}
use Rattle.acpi_tree.specs.Tree.{ItemTrees}
use Rattle.acpi_declare.specs.Predefined.{predefined}
use Rattle.acpi_declare.specs.Tables.{code_of}
use Rattle.acpi_outline.specs.declared.fault.LostFault.{LostFault}
use Rattle.acpi_outline.specs.Nodes.{NodeTrees}
use Rattle.acpi_conservative.specs.StrictNodes.{AreItems}
use Rattle.acpi_outline.specs.View.{nodes_view}
use Rattle.acpi_conditions.specs.Entries.{Why, Refusal}
use Rattle.acpi_survey.specs.declared.machine_survey.SurveyedTable.{SurveyedTable}
use Rattle.acpi_findings.specs.declared.notes.Note.{Note}
use Rattle.acpi_pieces.specs.declared.tables.TableContent.{TableContent}
use Rattle.acpi_pieces.specs.declared.tables.TableContent.TheVariants.{Read}
use Rattle.acpi_ranges.specs.Places.{last_at}
use Rattle.acpi_ranges.specs.Ranges.{Range, Entered, code_ranges}
use Rattle.acpi_findings.specs.Problems.{ProblemParts, why_lost, lost_problem, refused_problem, range_problems, table_problems}
use Rattle.acpi_ranges.specs.Index.{Refusals}
use Rattle.acpi_findings.specs.Notes.{Noticed, note_at, range_notes, table_notes}
use Rattle.acpi_ranges.specs.Index.{Unknowns, entered_in, refusals_in}
use Rattle.acpi_findings.specs.Findings.{problems_by, notes_by}
use Rattle.acpi_survey.specs.Reading.{Reading}
use Rattle.acpi_survey.specs.Predefined.{first_reading}
use Rattle.acpi_survey.specs.Survey.{behind_table, place_in}
use Rattle.acpi_survey.specs.Surveys.{AreTables, behind_nodes, bytes_of, nodes_of_each}
use Rattle.acpi_survey.proofs.Surveys.{are_read}
use Rattle.acpi_conservative.specs.Strict.{AreTablesOf}
use Rattle.acpi_conservative.specs.Laws.{StrictHasNoProblem, StrictHasNoNote}
use Rattle.acpi_conservative.proofs.First.{items_of}
use Rattle.acpi_conservative.proofs.WholeTables.{strict_table_is_read}
use Rattle.acpi_conservative.proofs.ReadTables.{strict_read_is_survey}
use Rattle.acpi_conservative.proofs.NothingLost.{AreKept, items_kept, nodes_are_items}

-- nothing is refused
abbrev NoneRefused : Refusals → Type 0
NoneRefused refusals = (q : ℕ) → refusals q ≡ None

ranges_without : (refusals : Refusals) → NoneRefused refusals → (code : List ℕ) (number : ℕ) (rs : List Range) → AreKept rs → flat_map (range_problems refusals code number) rs ≡ []
ranges_without refusals none code number [] h = refl
ranges_without refusals none code number (r ∷ rs) h =
    let rest : List ProblemParts = flat_map (range_problems refusals code number) rs in
    ap (λ (o : Option Why). (map (refused_problem number r) (option_to_list o) ++ map (lost_problem code number r) (why_lost r.part)) ++ rest) (none (place_in number r.from))
    ∙ ap (λ (ws : List LostFault). map (lost_problem code number r) ws ++ rest) h.0.0
    ∙ ranges_without refusals none code number rs h.1

table_without : (entered : Entered) (refusals : Refusals) → NoneRefused refusals → (number : ℕ) (bytes : List ℕ) (is : ItemTrees) (ns : NodeTrees) → AreItems is ns
    → (code : List ℕ) → table_problems entered refusals number bytes (Read code false false false 0) ns ≡ []
table_without entered refusals none number bytes is ns h code =
    ap (λ (ps : List ProblemParts). ps ++ []) (ranges_without refusals none code number (code_ranges entered (length code) ns) (items_kept is ns h entered 0 [] (length code) false))

tables_without : (entered : ℕ → Entered) (refusals : Refusals) → NoneRefused refusals → (depth number : ℕ) (s last : Reading) (kept : List SurveyedTable) (iss : List ItemTrees)
    → AreTables depth number s kept last → AreTablesOf depth number (bytes_of kept) iss → AllZip AreItems iss (nodes_of_each kept) → problems_by entered refusals number kept ≡ []
tables_without entered refusals none depth number s last [] iss a t h = refl
tables_without entered refusals none depth number s last (k ∷ kept) [] a t h = absurd t
tables_without entered refusals none depth number s last (k ∷ kept) (is ∷ iss) a t h =
    let rest : List ProblemParts = problems_by entered refusals (number + 1) kept in
    let judged_is = strict_table_is_read depth number k.bytes is t.0 k.judged a.0.judged in
    ap (λ (j : TableContent). table_problems (entered number) refusals number k.bytes j (nodes_view k.nodes) ++ rest) judged_is
    ∙ ap (λ (ps : List ProblemParts). ps ++ rest) (table_without (entered number) refusals none number k.bytes is (nodes_view k.nodes) h.0 _)
    ∙ ap (λ (n : ℕ). problems_by entered refusals n kept) (add-one number)
    ∙ tables_without entered refusals none depth (suc number) (behind_table (behind_nodes number s k)) last kept iss a.1 t.1 h.1

pub strict_has_no_problem : StrictHasNoProblem
strict_has_no_problem depth kept last a ts l =
    let read = are_read depth 0 first_reading last kept a in
    let items = items_of depth 0 predefined (bytes_of kept) ts l in
    let none : NoneRefused (refusals_in last) = λ q. ap (λ (rs : List Refusal). last_at (map (λ (r : Refusal). (r.place, r.why)) rs) q) (strict_read_is_survey depth (bytes_of kept) ts l (nodes_of_each kept) last read).3 in
    tables_without (entered_in last) (refusals_in last) none depth 0 first_reading last kept items.0 a items.1
    (nodes_are_items depth 0 first_reading last (bytes_of kept) items.0 (nodes_of_each kept) items.1 read)

-- ---- notes

ranges_unnoted : (unknowns : Unknowns) (code : List ℕ) (number : ℕ) (rs : List Range) → AreKept rs → flat_map (range_notes unknowns code number) rs ≡ []
ranges_unnoted unknowns code number [] h = refl
ranges_unnoted unknowns code number (r ∷ rs) h =
    ap (λ (xs : List Noticed). map (note_at number r.scope) xs ++ flat_map (range_notes unknowns code number) rs)
    (h.0.1 (unknowns (place_in number r.from)) code r.from r.behind_if)
    ∙ ranges_unnoted unknowns code number rs h.1

tables_unnoted : (entered : ℕ → Entered) (unknowns : Unknowns) (depth number : ℕ) (s last : Reading) (kept : List SurveyedTable) (iss : List ItemTrees)
    → AreTables depth number s kept last → AreTablesOf depth number (bytes_of kept) iss → AllZip AreItems iss (nodes_of_each kept) → notes_by entered unknowns number kept ≡ []
tables_unnoted entered unknowns depth number s last [] iss a t h = refl
tables_unnoted entered unknowns depth number s last (k ∷ kept) [] a t h = absurd t
tables_unnoted entered unknowns depth number s last (k ∷ kept) (is ∷ iss) a t h =
    let rest : List Note = notes_by entered unknowns (number + 1) kept in
    let judged_is = strict_table_is_read depth number k.bytes is t.0 k.judged a.0.judged in
    ap (λ (j : TableContent). table_notes (entered number) unknowns number j (nodes_view k.nodes) ++ rest) judged_is
    ∙ ap (λ (ns : List Note). ns ++ rest)
    (ranges_unnoted unknowns (code_of k.bytes) number (code_ranges (entered number) (length (code_of k.bytes)) (nodes_view k.nodes))
    (items_kept is (nodes_view k.nodes) h.0 (entered number) 0 [] (length (code_of k.bytes)) false))
    ∙ ap (λ (n : ℕ). notes_by entered unknowns n kept) (add-one number)
    ∙ tables_unnoted entered unknowns depth (suc number) (behind_table (behind_nodes number s k)) last kept iss a.1 t.1 h.1

pub strict_has_no_note : StrictHasNoNote
strict_has_no_note depth kept last a ts l entered unknowns =
    let items = items_of depth 0 predefined (bytes_of kept) ts l in
    tables_unnoted entered unknowns depth 0 first_reading last kept items.0 a items.1
    (nodes_are_items depth 0 first_reading last (bytes_of kept) items.0 (nodes_of_each kept) items.1 (are_read depth 0 first_reading last kept a))
