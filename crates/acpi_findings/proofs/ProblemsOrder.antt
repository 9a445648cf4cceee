-- The problems of tables stand in the order of their sites.
use Rattle.std.proofs.Common.{◌≡◌, ◌+◌, ◌-◌, ◌≤◌, ◌<◌, ℕ, suc, Bool, true, false, cond, nat_lt, List, [], ◌∷◌, ◌++◌, map, length, take, length-drop, length-take, flat_map, Option, Some, None, option_to_list, refl, sym, ap, subst, ◌∙◌, append_assoc, append-nil, add-one, arith}
use Rattle.std.proofs.lemmas.Bool.Decides.{nat_tests}
use Rattle.std.proofs.lemmas.Grind.{flat_map-append}
use Rattle.acpi_table.specs.Tables.{length_field}
use Rattle.acpi_outline.specs.declared.fault.LostFault.{LostFault}
use Rattle.acpi_outline.specs.Nodes.{FixedTree, NodeTree, plain, holds, holds_fields, closed, package_lost, data_lost, name_lost, NodeTrees, no_more, lost, node, FieldNodes, no_more_fields, fields_lost, field_node}
use Rattle.acpi_outline.specs.Tiling.{TilesFields, TilesInside, Tiles}
use Rattle.acpi_outline.specs.View.{nodes_view}
use Rattle.acpi_outline.specs.Reasons.{FieldReasonsLie, ReasonLies, ReasonsLie}
use Rattle.acpi_outline.proofs.Lying.{reasons_lie}
use Rattle.acpi_outline.proofs.One.{outline_tiles}
use Rattle.acpi_conditions.specs.Entries.{Path, Why}
use Rattle.acpi_pieces.specs.Tables.{IsJudged, code_read}
use Rattle.acpi_pieces.specs.declared.tables.TableContent.{TableContent}
use Rattle.acpi_pieces.specs.declared.tables.TableContent.TheVariants as judged
use Rattle.acpi_survey.specs.Predefined.{first_reading}
use Rattle.acpi_survey.specs.Reading.{Reading, survey_rules}
use Rattle.acpi_survey.specs.Survey.{place_in, at_table, behind_table}
use Rattle.acpi_survey.specs.Surveys.{AreTables, behind_nodes}
use Rattle.acpi_survey.specs.declared.machine_survey.SurveyedTable.{SurveyedTable}
use Rattle.acpi_ranges.specs.Index.{Refusals, entered_in, refusals_in}
use Rattle.acpi_ranges.specs.Ranges.{of_node, of_element, of_lost, Range, range, Entered, scope_inside, first_place, first_field_place, is_if, element_ranges, inner_ranges, ranges_of}
use Rattle.acpi_ranges.specs.LostRanges.{bytes_from}
use Rattle.acpi_findings.specs.Findings.{problems_by, problems_in}
use Rattle.acpi_findings.specs.FindingsOrder.{site_number, ProblemsStandInOrder}
use Rattle.acpi_findings.specs.Problems.{ProblemParts, trailing, table_problem, refused_problem, lost_problem, refused_in, range_problems, front_problems, trailing_problems}
use Rattle.acpi_findings.proofs.Rising.{Rises, rises_to, rises_on, in_order}
use Rattle.acpi_findings.proofs.NotesOrder.{number_at, number_le, number_below}

abbrev pub problem_number : ProblemParts → ℕ
problem_number p = site_number p.site

-- a list begins where its first node does
first_is : (start end : ℕ) (ns : NodeTrees) → Tiles start end ns → first_place end ns ≡ start
first_is start end no_more t = sym t
first_is start end (lost place why) t = t.0
first_is start end (node place n ns) t = t.1

first_field_is : (start end : ℕ) (es : FieldNodes) → TilesFields start end es → first_field_place end es ≡ start
first_field_is start end no_more_fields t = sym t
first_field_is start end (fields_lost place why) t = t.0
first_field_is start end (field_node place offset e es) t = t.1

module _ (refusals : Refusals) (code : List ℕ) (number : ℕ) (entered : Entered) where
  abbrev problems : Range → List ProblemParts
  problems = range_problems refusals code number

  abbrev RiseTo : ℕ → ℕ → List ProblemParts → Type 0
  RiseTo from to ps = Rises problem_number (number_at number from) (number_at number to) ps

  chosen_rise : (r : Range) (o : Option Why) → RiseTo r.from r.from (map (refused_problem number r) (option_to_list o))
  chosen_rise r None = omega arith
  chosen_rise r (Some why) = (omega arith, omega arith)

  -- of a range of which nothing is lost, up to where the next may begin
  kept_rise : (r : Range) (next : ℕ) → r.from ≤ next → RiseTo r.from next (refused_in refusals number r ++ [])
  kept_rise r next le =
      rises_on problem_number (number_at number r.from) (number_at number r.from) (number_at number next) (refused_in refusals number r) []
      (chosen_rise r (refusals (place_in number r.from))) (number_le number r.from next le)

  -- of one that is lost
  lost_rise : (r : Range) (why : LostFault) (next : ℕ) → r.from ≤ why.place → why.place ≤ next → RiseTo r.from next (refused_in refusals number r ++ lost_problem code number r why ∷ [])
  lost_rise r why next from to =
      rises_on problem_number (number_at number r.from) (number_at number r.from) (number_at number next) (refused_in refusals number r) (lost_problem code number r why ∷ [])
      (chosen_rise r (refusals (place_in number r.from))) (number_le number r.from why.place from, number_le number why.place next to)

  -- with nothing behind it
  alone : (from to : ℕ) (ps : List ProblemParts) → RiseTo from to ps → RiseTo from to (ps ++ [])
  alone from to ps h = subst (RiseTo from to) (sym (append-nil ps)) h

  fields_rise : (depth : ℕ) (s : Path) (start end : ℕ) (f : FixedTree) (es : FieldNodes) → TilesFields start end es → FieldReasonsLie end es
      → RiseTo start end (flat_map problems (element_ranges depth s end f es))
  fields_rise depth s start end f no_more_fields t h = number_le number start end (omega (arith, t))
  fields_rise depth s start end f (fields_lost place why) t h =
      subst (λ k. RiseTo k end (flat_map problems (element_ranges depth s end f (fields_lost place why)))) t.0
      (alone place end (problems (range depth place end s false (of_lost why))) (lost_rise (range depth place end s false (of_lost why)) why end h.0 h.1))
  fields_rise depth s start end f (field_node place offset e es) t h =
      let r : Range = range depth place (first_field_place end es) s false (of_element f offset e) in
      let rest : List Range = element_ranges depth s end f es in
      subst (λ k. RiseTo k end (problems r ++ flat_map problems rest)) t.1
      (rises_on problem_number (number_at number place) (number_at number t.0) (number_at number end) (problems r) (flat_map problems rest) (kept_rise r t.0 (omega (arith, t.1, t.2)))
      (fields_rise depth s t.0 end f es t.4 h))

  mutual
    node_rise : (depth place next : ℕ) (s : Path) (behind_if : Bool) (n : NodeTree) → place < next → TilesInside place next n → ReasonLies place next n
        → RiseTo place next (problems (range depth place next s behind_if (of_node n)) ++ flat_map problems (inner_ranges entered (suc depth) place s next n))
    node_rise depth place next s behind_if (plain p) lt t h =
        let r : Range = range depth place next s behind_if (of_node (plain p)) in alone place next (problems r) (kept_rise r next (omega (arith, lt)))
    node_rise depth place next s behind_if (holds f ns) lt t h =
        let r : Range = range depth place next s behind_if (of_node (holds f ns)) in
        let inner : Path = scope_inside entered place f s in
        rises_on problem_number (number_at number place) (number_at number t.0) (number_at number next) (problems r) (flat_map problems (ranges_of entered (suc depth) inner next false ns))
        (kept_rise r t.0 (omega (arith, t.1))) (nodes_rise (suc depth) inner t.0 next false ns t.2 h)
    node_rise depth place next s behind_if (holds_fields f es) lt t h =
        let r : Range = range depth place next s behind_if (of_node (holds_fields f es)) in
        rises_on problem_number (number_at number place) (number_at number t.0) (number_at number next) (problems r) (flat_map problems (element_ranges (suc depth) s next f es))
        (kept_rise r t.0 (omega (arith, t.1))) (fields_rise (suc depth) s t.0 next f es t.2 h)
    node_rise depth place next s behind_if (closed f content) lt t h =
        let r : Range = range depth place next s behind_if (of_node (closed f content)) in alone place next (problems r) (kept_rise r next (omega (arith, lt)))
    node_rise depth place next s behind_if (package_lost form why) lt t h =
        let r : Range = range depth place next s behind_if (of_node (package_lost form why)) in alone place next (problems r) (lost_rise r why next h.0 h.1)
    node_rise depth place next s behind_if (data_lost form why) lt t h =
        let r : Range = range depth place next s behind_if (of_node (data_lost form why)) in alone place next (problems r) (lost_rise r why next h.0 h.1)
    node_rise depth place next s behind_if (name_lost n form why) lt t h =
        let r : Range = range depth place next s behind_if (of_node (name_lost n form why)) in alone place next (problems r) (lost_rise r why next h.0 h.1)

    nodes_rise : (depth : ℕ) (s : Path) (start end : ℕ) (behind_if : Bool) (ns : NodeTrees) → Tiles start end ns → ReasonsLie end ns
        → RiseTo start end (flat_map problems (ranges_of entered depth s end behind_if ns))
    nodes_rise depth s start end behind_if no_more t h = number_le number start end (omega (arith, t))
    nodes_rise depth s start end behind_if (lost place why) t h =
        let r : Range = range depth place end s behind_if (of_lost why) in
        subst (λ k. RiseTo k end (flat_map problems (r ∷ []))) t.0 (alone place end (problems r) (lost_rise r why end h.0 h.1))
    nodes_rise depth s start end behind_if (node place n ns) t h =
        let next : ℕ = t.0 in
        let rest : List Range = ranges_of entered depth s end (is_if n) ns in
        let first : ℕ → List ProblemParts = λ to. problems (range depth place to s behind_if (of_node n)) in
        let inner : ℕ → List Range = λ to. inner_ranges entered (suc depth) place s to n in
        let ends : first_place end ns ≡ next = first_is next end ns t.5 in
        let join : (first next ++ flat_map problems (inner next)) ++ flat_map problems rest ≡ first next ++ flat_map problems (inner next ++ rest) =
        append_assoc (first next) (flat_map problems (inner next)) (flat_map problems rest) ∙ ap (λ (l : List ProblemParts). first next ++ l) (sym (flat_map-append problems (inner next) rest)) in
        subst (λ k. RiseTo k end (flat_map problems (ranges_of entered depth s end behind_if (node place n ns)))) t.1
        (subst (λ to. RiseTo place end (first to ++ flat_map problems (inner to ++ rest))) (sym ends)
        (subst (RiseTo place end) join
        (rises_on problem_number (number_at number place) (number_at number next) (number_at number end) (first next ++ flat_map problems (inner next)) (flat_map problems rest)
        (node_rise depth place next s behind_if n (omega (arith, t.1, t.2)) t.4 (subst (λ to. ReasonLies place to n) ends h.0)) (nodes_rise depth s next end (is_if n) ns t.5 h.1))))

-- ---- tables

front_rise : (number : ℕ) (bytes : List ℕ) (j : TableContent) → Rises problem_number (place_in number 0) (place_in number 0) (front_problems number bytes j)
front_rise number bytes (judged.Unread why) = (omega arith, omega arith)
front_rise number bytes (judged.Read code true has_bad_sum is_out_of_place behind) = (omega arith, omega arith)
front_rise number bytes (judged.Read code false has_bad_sum is_out_of_place behind) = omega arith

-- bytes behind a table stand behind its code
trailing_rise : (number : ℕ) (bytes : List ℕ) (j : TableContent) → IsJudged number bytes j
    → Rises problem_number (number_at number (length (code_read j))) (place_in (suc number) 0) (trailing_problems number bytes j)
trailing_rise number bytes (judged.Unread why) h = number_below number 0
trailing_rise number bytes (judged.Read code is_cut has_bad_sum is_out_of_place behind) h = by (nat_lt 0 behind) refl
  where
    size : length code ≡ length (take (length_field bytes) bytes) - 36
    size = ap length h.2 ∙ length-drop 36 (take (length_field bytes) bytes)

    q : ProblemParts
    q = table_problem number (length bytes - behind) trailing (Some (bytes_from (length bytes - behind) bytes))

    from : ℕ
    from = number_at number (length code)

    to : ℕ
    to = place_in (suc number) 0

    before : 0 < behind → (from ≤ place_in number (length bytes - behind)) × (place_in number (length bytes - behind) ≤ to)
    before some =
        let short : length (take (length_field bytes) bytes) ≤ length_field bytes = simp length-take (omega arith) in
        let at : length bytes - behind ≡ length_field bytes = omega (arith, some, h.6) in
        let code_short : length code + 36 ≤ length_field bytes = omega (arith, size, short, h.0.least) in
        (omega (arith, at, code_short), omega (arith, at, h.0.most))

    by : (b : Bool) → nat_lt 0 behind ≡ b → Rises problem_number from to (cond b (q ∷ []) [])
    by false e = number_below number (length code)
    by true e = before (grind (arith, nat_tests))

tables_rise : (s : Reading) (depth number : ℕ) (first last : Reading) (ts : List SurveyedTable) → AreTables depth number first ts last
    → (end : ℕ) × Rises problem_number (place_in number 0) end (problems_by (entered_in s) (refusals_in s) number ts)
tables_rise s depth number first last [] h = (place_in number 0, omega arith)
tables_rise s depth number first last (t ∷ ts) h =
    let code : List ℕ = code_read t.judged in
    let rest : (end : ℕ) × Rises problem_number (place_in (suc number) 0) end (problems_by (entered_in s) (refusals_in s) (suc number) ts) =
    tables_rise s depth (suc number) (behind_table (behind_nodes number first t)) last ts h.1 in
    let front : List ProblemParts = front_problems number t.bytes t.judged in
    let inner : List ProblemParts = flat_map (range_problems (refusals_in s) code number) (ranges_of (entered_in s number) 0 [] (length code) false (nodes_view t.nodes)) in
    let behind : List ProblemParts = trailing_problems number t.bytes t.judged in
    let tiles : Tiles 0 (length code) (nodes_view t.nodes) = outline_tiles survey_rules (at_table number first) depth code (nodes_view t.nodes) h.0.outline in
    let lie : ReasonsLie (length code) (nodes_view t.nodes) = reasons_lie survey_rules (at_table number first) depth code (nodes_view t.nodes) h.0.outline in
    let start : Rises problem_number (place_in number 0) (number_at number 0) front =
    rises_to problem_number (place_in number 0) (place_in number 0) (number_at number 0) front (omega arith) (front_rise number t.bytes t.judged) in
    let middle : Rises problem_number (number_at number 0) (number_at number (length code)) inner =
    nodes_rise (refusals_in s) code number (entered_in s number) 0 [] 0 (length code) false (nodes_view t.nodes) tiles lie in
    let whole : Rises problem_number (place_in number 0) (place_in (suc number) 0) ((front ++ inner) ++ behind) =
    rises_on problem_number (place_in number 0) (number_at number (length code)) (place_in (suc number) 0) (front ++ inner) behind
    (rises_on problem_number (place_in number 0) (number_at number 0) (number_at number (length code)) front inner start middle) (trailing_rise number t.bytes t.judged h.0.judged) in (
      rest.0,
      subst (λ k. Rises problem_number (place_in number 0) rest.0 (((front ++ inner) ++ behind) ++ problems_by (entered_in s) (refusals_in s) k ts)) (sym (add-one number))
          (rises_on problem_number (place_in number 0) (place_in (suc number) 0) rest.0 ((front ++ inner) ++ behind) (problems_by (entered_in s) (refusals_in s) (suc number) ts) whole rest.1),
    )

pub problems_in_order : ProblemsStandInOrder
problems_in_order depth last ts h =
    let rise = tables_rise last depth 0 first_reading last ts h in
    in_order problem_number (place_in 0 0) rise.0 (problems_in last ts) rise.1
