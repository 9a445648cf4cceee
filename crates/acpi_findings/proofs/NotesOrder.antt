-- The notes of tables stand in the order of their sites.
use Rattle.std.proofs.Common.{◌≡◌, ◌+◌, ◌-◌, ◌≤◌, ℕ, suc, Bool, true, false, not, ◌&&◌, cond, List, [], ◌∷◌, ◌++◌, map, length, drop, flat_map, refl, sym, ap, subst, ◌∙◌, append_assoc, append-nil, add-one, arith}
use Rattle.std.proofs.lemmas.List.{drop-drop, length-append}
use Rattle.std.proofs.lemmas.Grind.{flat_map-append}
use Rattle.acpi_name.specs.Names.{NameParts}
use Rattle.acpi_needs.specs.Needs.{is_among}
use Rattle.acpi_outline.specs.Nodes.{PlainTree, term, external, alias, table_region, FixedTree, NodeTree, plain, holds, holds_fields, closed, package_lost, data_lost, name_lost, NodeTrees, no_more, lost, node, FieldNodes, no_more_fields, fields_lost, field_node, form_of, form_bytes}
use Rattle.acpi_outline.specs.Outline.{is_stray, IsFixed, IsNode, AreNodes}
use Rattle.acpi_outline.specs.Rules.{Rules, after}
use Rattle.acpi_outline.specs.View.{nodes_view}
use Rattle.acpi_code.specs.Spelling.{Packs}
use Rattle.acpi_conditions.specs.Entries.{Path}
use Rattle.acpi_pieces.specs.Tables.{code_read}
use Rattle.acpi_survey.specs.Predefined.{first_reading}
use Rattle.acpi_survey.specs.Reading.{Reading, survey_rules}
use Rattle.acpi_survey.specs.Survey.{place_in, at_table, behind_table}
use Rattle.acpi_survey.specs.Surveys.{AreTables, behind_nodes}
use Rattle.acpi_survey.specs.declared.machine_survey.SurveyedTable.{SurveyedTable}
use Rattle.acpi_ranges.specs.Index.{Unknowns, entered_in, unknowns_in}
use Rattle.acpi_ranges.specs.Ranges.{of_node, Range, range, Entered, scope_inside, first_place, is_if, element_ranges, inner_ranges, ranges_of}
use Rattle.acpi_ranges.specs.Sites.{offset_of}
use Rattle.acpi_findings.specs.Findings.{notes_by, notes_in}
use Rattle.acpi_findings.specs.FindingsOrder.{note_number, NotesStandInOrder}
use Rattle.acpi_findings.specs.Marks.{PlacedMark, called, load, marks_in_plain, marks_in_fixed}
use Rattle.acpi_findings.specs.Notes.{Noticed, whole_note, whole_reasons, whole_notes, mark_reasons, all_mark_reasons, stray_reasons, plain_reasons, fixed_reasons, is_else, else_reasons, part_reasons, note_at, range_notes}
use Rattle.acpi_findings.specs.declared.notes.Note.{Note}
use Rattle.acpi_findings.specs.declared.notes.NoteReason.{NoteReason}
use Rattle.acpi_findings.specs.declared.notes.NoteReason.TheVariants.{Unknown, Stray, StrayElse}
use Rattle.acpi_findings.proofs.Rising.{Rises, rises_from, rises_to, rises_on, in_order}
use Rattle.acpi_findings.proofs.MarksStand.{mark_place, drop_front}
use Rattle.acpi_findings.proofs.NodeMarks.{StandIn, plain_stands, fixed_stands}

-- ---- places and sites

-- the site of a place of the code, as one number
abbrev pub number_at : (number place : ℕ) → ℕ
number_at number place = place_in number (offset_of place)

pub number_le : (number p q : ℕ) → p ≤ q → number_at number p ≤ number_at number q
number_le number p q le = omega (arith, le)

pub number_below : (number p : ℕ) → number_at number p ≤ place_in (suc number) 0
number_below number p = omega arith

-- the bytes of the code from a place on
pub record At (code : List ℕ) (place : ℕ) (bytes : List ℕ) : Type 0 where
  pub is : drop place code ≡ bytes
  pub whole : place + length bytes ≡ length code

pub at_behind : (code : List ℕ) (place : ℕ) (front more : List ℕ) → At code place (front ++ more) → At code (place + length front) more
at_behind code place front more h =
    let long : length (front ++ more) ≡ length front + length more = length-append front more in
    record {
      is = sym (drop-drop (length front) place code) ∙ ap (drop (length front)) h.is ∙ drop_front (length front) front more refl;
      whole = omega (arith, h.whole, long);
    }

pub place_of : (code : List ℕ) (place : ℕ) (bytes : List ℕ) → At code place bytes → length code - length bytes ≡ place
place_of code place bytes h = omega (arith, h.whole)

-- ---- what is noticed

abbrev noticed_place : Noticed → ℕ
noticed_place x = x.0

noted : (number : ℕ) (s : Path) (from to : ℕ) (xs : List Noticed) → Rises noticed_place from to xs → Rises note_number (number_at number from) (number_at number to) (map (note_at number s) xs)
noted number s from to [] h = number_le number from to h
noted number s from to ((p, why) ∷ xs) h = (number_le number from p h.0, noted number s p to xs h.1)

one_or_none : (b : Bool) (p : ℕ) (why : NoteReason) → Rises noticed_place p p (cond b ((p, why) ∷ []) [])
one_or_none true p why = (omega arith, omega arith)
one_or_none false p why = omega arith

marks_noticed : (unknown : List NameParts) (from to : ℕ) (ms : List PlacedMark) → Rises mark_place from to ms → Rises noticed_place from to (all_mark_reasons unknown ms)
marks_noticed unknown from to [] h = h
marks_noticed unknown from to ((p, called n) ∷ ms) h =
    rises_from noticed_place from p to (mark_reasons unknown (p, called n) ++ all_mark_reasons unknown ms) h.0
    (rises_on noticed_place p p to (mark_reasons unknown (p, called n)) (all_mark_reasons unknown ms) (one_or_none (is_among unknown n) p (Unknown n)) (marks_noticed unknown p to ms h.1))
marks_noticed unknown from to ((p, load) ∷ ms) h = (h.0, marks_noticed unknown p to ms h.1)

strays_noticed : (p : ℕ) (x : PlainTree) → Rises noticed_place p p (stray_reasons p x)
strays_noticed p (term t) = one_or_none (is_stray t) p Stray
strays_noticed p (external x) = omega arith
strays_noticed p (alias source n) = omega arith
strays_noticed p (table_region n vs) = omega arith

-- ---- one table's code

module _ (unknowns : Unknowns) (code : List ℕ) (number : ℕ) (entered : Entered) where
  abbrev notes : Range → List Note
  notes = range_notes unknowns code number

  abbrev RiseTo : ℕ → ℕ → List Note → Type 0
  RiseTo from to ns = Rises note_number (number_at number from) (number_at number to) ns

  elements_unnoted : (depth : ℕ) (s : Path) (to : ℕ) (f : FixedTree) (es : FieldNodes) → flat_map notes (element_ranges depth s to f es) ≡ []
  elements_unnoted depth s to f no_more_fields = refl
  elements_unnoted depth s to f (fields_lost place why) = refl
  elements_unnoted depth s to f (field_node place offset e es) = elements_unnoted depth s to f es

  -- marks between two places of the code
  marks_between : (place : ℕ) (bytes rest : List ℕ) (next : ℕ) (ms : List PlacedMark) → At code place bytes → At code next rest → StandIn (length code) bytes rest ms → Rises mark_place place next ms
  marks_between place bytes rest next ms here there h =
      subst (λ k. Rises mark_place k next ms) (place_of code place bytes here) (subst (λ k. Rises mark_place (length code - length bytes) k ms) (place_of code next rest there) h)

  plain_rise : {S : Type 0} (r : Rules S) (level : ℕ) (known : S) (place next to : ℕ) (p : PlainTree) (a rest : List ℕ) (depth : ℕ) (s : Path) (behind_if : Bool) → At code place (a ++ rest)
      → At code next rest → IsNode r level place next known (plain p) a → RiseTo place next (notes (range depth place to s behind_if (of_node (plain p))))
  plain_rise r level known place next to p a rest depth s behind_if here there h =
      let unknown : List NameParts = unknowns (place_in number place) in
      let ms : List PlacedMark = marks_in_plain (length code) p (a ++ rest) in
      let stand = marks_between place (a ++ rest) rest next ms here there (plain_stands r known (length code) p a rest h.spells) in
      noted number s place next (plain_reasons unknown code place p)
      (rises_on noticed_place place place next (stray_reasons place p) (all_mark_reasons unknown (marks_in_plain (length code) p (drop place code))) (strays_noticed place p)
      (subst (λ (l : List ℕ). Rises noticed_place place next (all_mark_reasons unknown (marks_in_plain (length code) p l))) (sym here.is) (marks_noticed unknown place next ms stand)))

  fixed_rise : {S : Type 0} (r : Rules S) (level : ℕ) (known : S) (place middle : ℕ) (f : FixedTree) (q b a rest : List ℕ) → At code place (a ++ rest) → At code middle (b ++ rest)
      → IsFixed r level known f q → Packs (form_bytes (form_of f)) (q ++ b) a → Rises noticed_place place middle (fixed_reasons (unknowns (place_in number place)) code place f)
  fixed_rise r level known place middle f q b a rest here there h p =
      let unknown : List NameParts = unknowns (place_in number place) in
      let ms : List PlacedMark = marks_in_fixed (length code) f (a ++ rest) in
      let stand = marks_between place (a ++ rest) (b ++ rest) middle ms here there (fixed_stands r level known (length code) f q b a rest h p) in
      subst (λ (l : List ℕ). Rises noticed_place place middle (all_mark_reasons unknown (marks_in_fixed (length code) f l))) (sym here.is) (marks_noticed unknown place middle ms stand)

  -- in a package of a form its content stands behind the fixed arguments
  content_at : (opcode q b a rest : List ℕ) (place : ℕ) → Packs opcode (q ++ b) a → At code place (a ++ rest) → (middle : ℕ) × At code middle (b ++ rest) × (place ≤ middle) × (middle + length b ≡ place + length a)
  content_at opcode q b a rest place p here =
      let front : List ℕ = opcode ++ (p.len ++ q) in
      let is : a ≡ front ++ b =
      p.whole ∙ ap (λ (l : List ℕ). opcode ++ l) (sym (append_assoc p.len q b)) ∙ sym (append_assoc opcode (p.len ++ q) b) in
      let whole : a ++ rest ≡ front ++ (b ++ rest) = ap (λ (l : List ℕ). l ++ rest) is ∙ append_assoc front b rest in
      let long : length a ≡ length front + length b = ap length is ∙ length-append front b in
      (place + length front, at_behind code place front (b ++ rest) (subst (At code place) whole here), omega arith, omega (arith, long))

  -- a node that stops where nothing is noticed
  none_rise : (place next : ℕ) → place ≤ next → RiseTo place next []
  none_rise place next le = number_le number place next le

  mutual
    -- of a node and of what stands in it; `to` is where the range of each ends, of which notes say nothing
    node_rise : {S : Type 0} (r : Rules S) (level : ℕ) (known : S) (place next to : ℕ) (n : NodeTree) (a rest : List ℕ) (depth : ℕ) (s : Path) (behind_if : Bool) → At code place (a ++ rest)
        → At code next rest → next ≡ place + length a → IsNode r level place next known n a
        → RiseTo place next (notes (range depth place to s behind_if (of_node n)) ++ flat_map notes (inner_ranges entered (suc depth) place s to n))
    node_rise r level known place next to (plain p) a rest depth s behind_if here there ends h =
        rises_on note_number (number_at number place) (number_at number next) (number_at number next) (notes (range depth place to s behind_if (of_node (plain p)))) []
        (plain_rise r level known place next to p a rest depth s behind_if here there h) (omega arith)
    node_rise r level known place next to (holds f ns) a rest depth s behind_if here there ends h =
        let q : List ℕ = h.0 in
        let b : List ℕ = h.1 in
        let inside = content_at (form_bytes (form_of f)) q b a rest place h.5 here in
        let inner : Path = scope_inside entered place f s in
        rises_on note_number (number_at number place) (number_at number inside.0) (number_at number next) (notes (range depth place to s behind_if (of_node (holds f ns))))
        (flat_map notes (ranges_of entered (suc depth) inner to false ns))
        (noted number s place inside.0 (part_reasons (unknowns (place_in number place)) code place behind_if (of_node (holds f ns)))
        (rises_on noticed_place place place inside.0 (else_reasons place behind_if (holds f ns)) (fixed_reasons (unknowns (place_in number place)) code place f)
        (one_or_none (is_else (holds f ns) && not behind_if) place StrayElse) (fixed_rise r level known place inside.0 f q b a rest here inside.1 h.2 h.5)))
        (nodes_rise r level (r.enter known place f) inside.0 next to ns b rest (suc depth) inner false inside.1 (omega (arith, inside.3, ends)) h.4)
    node_rise r level known place next to (holds_fields f es) a rest depth s behind_if here there ends h =
        let q : List ℕ = h.0 in
        let b : List ℕ = h.1 in
        let inside = content_at (form_bytes (form_of f)) q b a rest place h.5 here in
        subst (λ (ns : List Note). RiseTo place next (notes (range depth place to s behind_if (of_node (holds_fields f es))) ++ ns)) (sym (elements_unnoted (suc depth) s to f es))
        (rises_on note_number (number_at number place) (number_at number inside.0) (number_at number next) (notes (range depth place to s behind_if (of_node (holds_fields f es)))) []
        (noted number s place inside.0 (fixed_reasons (unknowns (place_in number place)) code place f) (fixed_rise r level known place inside.0 f q b a rest here inside.1 h.2 h.5))
        (number_le number inside.0 next (omega (arith, inside.3, ends))))
    node_rise r level known place next to (closed f content) a rest depth s behind_if here there ends h = none_rise place next (omega (arith, ends))
    node_rise r level known place next to (package_lost form why) a rest depth s behind_if here there ends h = none_rise place next (omega (arith, ends))
    node_rise r level known place next to (data_lost form why) a rest depth s behind_if here there ends h = none_rise place next (omega (arith, ends))
    node_rise r level known place next to (name_lost n form why) a rest depth s behind_if here there ends h = none_rise place next (omega (arith, ends))

    nodes_rise : {S : Type 0} (r : Rules S) (level : ℕ) (known : S) (start end to : ℕ) (ns : NodeTrees) (bytes rest : List ℕ) (depth : ℕ) (s : Path) (behind_if : Bool) → At code start (bytes ++ rest)
        → end ≡ start + length bytes → AreNodes r level end known ns bytes → RiseTo start end (flat_map notes (ranges_of entered depth s to behind_if ns))
    nodes_rise r level known start end to no_more bytes rest depth s behind_if here ends h = none_rise start end (omega (arith, ends))
    nodes_rise r level known start end to (lost place why) bytes rest depth s behind_if here ends h = none_rise start end (omega (arith, ends))
    nodes_rise r level known start end to (node place n ns) bytes rest depth s behind_if here ends h =
        let a : List ℕ = h.0 in
        let b : List ℕ = h.1 in
        let long : length bytes ≡ length a + length b = ap length h.7 ∙ length-append a b in
        let next : ℕ = end - length b in
        let at : place ≡ start = omega (arith, h.4, ends) in
        let before : At code start (a ++ (b ++ rest)) = subst (At code start) (ap (λ (l : List ℕ). l ++ rest) h.7 ∙ append_assoc a b rest) here in
        let from_place : At code place (a ++ (b ++ rest)) = subst (λ k. At code k (a ++ (b ++ rest))) (sym at) before in
        let ends_here : next ≡ place + length a = omega (arith, at, ends, long) in
        let from_next : At code next (b ++ rest) = subst (λ k. At code k (b ++ rest)) (sym ends_here) (at_behind code place a (b ++ rest) from_place) in
        let first : List Note = notes (range depth place (first_place to ns) s behind_if (of_node n)) in
        let inner : List Range = inner_ranges entered (suc depth) place s (first_place to ns) n in
        let others : List Range = ranges_of entered depth s to (is_if n) ns in
        let join : (first ++ flat_map notes inner) ++ flat_map notes others ≡ first ++ flat_map notes (inner ++ others) =
        append_assoc first (flat_map notes inner) (flat_map notes others) ∙ ap (λ (l : List Note). first ++ l) (sym (flat_map-append notes inner others)) in
        subst (λ k. RiseTo k end (flat_map notes (ranges_of entered depth s to behind_if (node place n ns)))) at
        (subst (RiseTo place end) join
        (rises_on note_number (number_at number place) (number_at number next) (number_at number end) (first ++ flat_map notes inner) (flat_map notes others)
        (node_rise r h.2 known place next (first_place to ns) n a (b ++ rest) depth s behind_if from_place from_next ends_here h.5)
        (nodes_rise r level (after r place known n) next end to ns b rest depth s (is_if n) from_next (omega (arith, ends, ends_here, at, long)) h.6)))

-- ---- tables

wholes_rise : (number : ℕ) (whys : List NoteReason) → Rises note_number (place_in number 0) (place_in number 0) (map (whole_note number) whys)
wholes_rise number [] = omega arith
wholes_rise number (why ∷ whys) = (omega arith, wholes_rise number whys)

tables_rise : (entered : ℕ → Entered) (unknowns : Unknowns) (depth number : ℕ) (s last : Reading) (ts : List SurveyedTable) → AreTables depth number s ts last
    → (end : ℕ) × Rises note_number (place_in number 0) end (notes_by entered unknowns number ts)
tables_rise entered unknowns depth number s last [] h = (place_in number 0, omega arith)
tables_rise entered unknowns depth number s last (t ∷ ts) h =
    let code : List ℕ = code_read t.judged in
    let rest : (end : ℕ) × Rises note_number (place_in (suc number) 0) end (notes_by entered unknowns (suc number) ts) =
    tables_rise entered unknowns depth (suc number) (behind_table (behind_nodes number s t)) last ts h.1 in
    let at : At code 0 (code ++ []) = record { is = sym (append-nil code); whole = omega (arith, ap length (append-nil code)) } in
    let inner : List Note = flat_map (range_notes unknowns code number) (ranges_of (entered number) 0 [] (length code) false (nodes_view t.nodes)) in
    let nodes : Rises note_number (number_at number 0) (number_at number (length code)) inner =
    nodes_rise unknowns code number (entered number) survey_rules depth (at_table number s) 0 (length code) (length code) (nodes_view t.nodes) code [] 0 [] false at (omega arith) h.0.outline in
    let whole : List Note = whole_notes number t.judged in
    let here : Rises note_number (place_in number 0) (number_at number (length code)) (whole ++ inner) =
    rises_on note_number (place_in number 0) (number_at number 0) (number_at number (length code)) whole inner
    (rises_to note_number (place_in number 0) (place_in number 0) (number_at number 0) whole (omega arith) (wholes_rise number (whole_reasons number t.judged))) nodes in (
      rest.0,
      subst (λ k. Rises note_number (place_in number 0) rest.0 ((whole ++ inner) ++ notes_by entered unknowns k ts)) (sym (add-one number))
          (rises_on note_number (place_in number 0) (place_in (suc number) 0) rest.0 (whole ++ inner) (notes_by entered unknowns (suc number) ts)
          (rises_to note_number (place_in number 0) (number_at number (length code)) (place_in (suc number) 0) (whole ++ inner) (number_below number (length code)) here) rest.1),
    )

pub notes_in_order : NotesStandInOrder
notes_in_order depth last ts h =
    let rise = tables_rise (entered_in last) (unknowns_in last) depth 0 first_reading last ts h in
    in_order note_number (place_in 0 0) rise.0 (notes_in last ts) rise.1
