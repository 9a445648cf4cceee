-- The Scopes that were entered, and the Aliases, stand in the order of their places.
use Rattle.std.proofs.Common.{◌≡◌, ◌+◌, ◌^◌, ◌≤◌, ◌<◌, ◌⊎◌, ℕ, suc, List, [], ◌∷◌, ◌++◌, map, length, Option, Some, None, Result, Ok, Err, inl, inr, refl, sym, subst, ◌∙◌, arith}
use Rattle.std.proofs.lemmas.List.{map_push}
use Rattle.std.specs.List.Sorted.{IsNonDecreasingBy}
use Rattle.acpi_name.specs.Names.{NameParts}
use Rattle.acpi_tree.specs.declared.op.Op.{Op}
use Rattle.acpi_tree.specs.declared.op.Op.TheVariants as ops
use Rattle.acpi_tree.specs.Tree.{FieldTree, unit}
use Rattle.acpi_tree.specs.Terms.{apply, declare}
use Rattle.acpi_outline.specs.declared.form.PackedForm.{PackedForm}
use Rattle.acpi_outline.specs.declared.form.PackedForm.TheVariants as forms
use Rattle.acpi_outline.specs.Nodes as outline
use Rattle.acpi_outline.specs.Nodes.{PlainTree, FixedTree, container, method, if_so, otherwise, while_so, units, FieldNodes, no_more_fields, fields_lost, field_node}
use Rattle.acpi_outline.specs.Nodes.{NodeTree, plain, holds, holds_fields, closed, package_lost, data_lost, name_lost, NodeTrees, no_more, lost, node}
use Rattle.acpi_outline.specs.Rules.{after_fields, after, after_all}
use Rattle.acpi_outline.specs.Tiling.{TilesInside, Tiles}
use Rattle.acpi_outline.specs.View.{nodes_view}
use Rattle.acpi_outline.proofs.One.{outline_tiles}
use Rattle.acpi_conditions.specs.Nodes.{no_nodes}
use Rattle.acpi_conditions.specs.Entries.{Path, Why}
use Rattle.acpi_conditions.specs.Known.{opened_at}
use Rattle.acpi_survey.specs.Nodes.{operator_at}
use Rattle.acpi_survey.specs.NameUses.{names_used_in_plain}
use Rattle.acpi_survey.specs.declared.name_uses.NameUse.TheVariants.{Call}
use Rattle.acpi_survey.specs.Reading.{Reading, AliasSource, survey_rules, source_at, passing, after_doing, past_plain, after_plain, after_name, with_opened, noticing, enter, begin_fields, leave, after_field, after_closed, after_lost}
use Rattle.acpi_pieces.specs.Tables.{code_read}
use Rattle.acpi_survey.specs.Survey.{place_in, at_table, behind_table}
use Rattle.acpi_survey.specs.Surveys.{AreTables, behind_nodes}
use Rattle.acpi_survey.specs.SurveyOrder.{IsInOrder}
use Rattle.acpi_survey.specs.Predefined.{first_reading, with_object}
use Rattle.acpi_survey.specs.declared.machine_survey.Survey.{Survey}
use Rattle.acpi_survey.specs.declared.machine_survey.SurveyedTable.{SurveyedTable}
use Rattle.acpi_survey.proofs.Growing.{Grow, grow_on, code_short}
use Rattle.acpi_survey.proofs.EntryOrder.{in_order, all_tile, entries_in_order}
use Rattle.acpi_survey.proofs.Walking.{base_enter, base_after}

-- ---- places that are kept

-- these are kept, or a place besides, as the last
abbrev IsAdded : (ps : List ℕ) (place : ℕ) (qs : List ℕ) → Type 0
IsAdded ps place qs = (qs ≡ ps) ⊎ (qs ≡ ps ++ place ∷ [])

-- what a reading keeps of places: a node adds its own place, or none
record AddsOwn (kept : Reading → List ℕ) : Type 0 where
  on_plain : (place : ℕ) (p : PlainTree) (s : Reading) → IsAdded (kept s) (s.base + place) (kept (after_plain s place p))
  on_enter : (place : ℕ) (f : FixedTree) (s : Reading) → IsAdded (kept s) (s.base + place) (kept (enter s place f))
  on_closed : (place : ℕ) (f : FixedTree) (content : List ℕ) (s : Reading) → IsAdded (kept s) (s.base + place) (kept (after_closed s place f content))
  on_name : (place : ℕ) (n : NameParts) (s : Reading) → kept (after_name s place n) ≡ kept s
  on_lost : (place : ℕ) (form : Option PackedForm) (s : Reading) → kept (after_lost s place form) ≡ kept s
  on_field : (place : ℕ) (f : FixedTree) (e : FieldTree) (s : Reading) → kept (after_field s place f e) ≡ kept s
  on_begin : (place : ℕ) (f : FixedTree) (s : Reading) → kept (begin_fields s place f) ≡ kept s
  on_leave : (s : Reading) → kept (leave s) ≡ kept s
  on_table : (number : ℕ) (s : Reading) → kept (at_table number s) ≡ kept s
  on_behind : (s : Reading) → kept (behind_table s) ≡ kept s

grow_up : (first middle last : ℕ) (ps : List ℕ) → middle ≤ last → Grow first middle ps → Grow first last ps
grow_up first middle last [] le h = omega (arith, le, h)
grow_up first middle last (p ∷ ps) le h = (h.0, grow_up (suc p) middle last ps le h.1)

grow_added : (here place last : ℕ) (ps qs : List ℕ) → here ≤ place → place < last → IsAdded ps place qs → Grow 0 here ps → Grow 0 last qs
grow_added here place last ps qs from before (inl same) h = subst (Grow 0 last) (sym same) (grow_up 0 here last ps (omega (arith, from, before)) h)
grow_added here place last ps qs from before (inr more) h = subst (Grow 0 last) (sym more) (grow_on 0 here last ps (place ∷ []) h (from, before))

-- ---- behind nodes

fields_same : (kept : Reading → List ℕ) → AddsOwn kept → (f : FixedTree) (es : FieldNodes) (s : Reading) → kept (after_fields survey_rules s f es) ≡ kept s
fields_same kept own f no_more_fields s = refl
fields_same kept own f (fields_lost place why) s = refl
fields_same kept own f (field_node place offset e es) s = fields_same kept own f es (after_field s place f e) ∙ own.on_field place f e s

-- up to a place of the code, whose first byte stands at the base
abbrev GrowTo : (kept : Reading → List ℕ) (base end : ℕ) → Reading → Type 0
GrowTo kept base end s = Grow 0 (base + end) (kept s)

-- .. from one node's place to the next, where what is kept is the same or has the node's place too
node_added : (kept : Reading → List ℕ) (base place next : ℕ) (s s' : Reading) → s.base ≡ base → place < next → IsAdded (kept s) (s.base + place) (kept s') → GrowTo kept base place s
    → GrowTo kept base next s'
node_added kept base place next s s' is before added h =
    grow_added (base + place) (base + place) (base + next) (kept s) (kept s') (omega arith) (omega (arith, before)) (subst (λ b. IsAdded (kept s) (b + place) (kept s')) is added) h

node_same : (kept : Reading → List ℕ) (base place next : ℕ) (s s' : Reading) → place < next → kept s' ≡ kept s → GrowTo kept base place s → GrowTo kept base next s'
node_same kept base place next s s' before same h = subst (Grow 0 (base + next)) (sym same) (grow_up 0 (base + place) (base + next) (kept s) (omega (arith, before)) h)

mutual
  grow_node : (kept : Reading → List ℕ) → AddsOwn kept → (base place next : ℕ) (n : NodeTree) (s : Reading) → s.base ≡ base → place < next → TilesInside place next n → GrowTo kept base place s
      → GrowTo kept base next (after survey_rules place s n)
  grow_node kept own base place next (plain p) s is before t h = node_added kept base place next s (after_plain s place p) is before (own.on_plain place p s) h
  grow_node kept own base place next (holds f ns) s is before t h =
      let s1 : Reading = enter s place f in
      subst (Grow 0 (base + next)) (sym (own.on_leave (after_all survey_rules s1 ns)))
      (grow_nodes kept own base t.0 next ns s1 (base_enter place f s ∙ is) t.2 (node_added kept base place t.0 s s1 is t.1 (own.on_enter place f s) h))
  grow_node kept own base place next (holds_fields f es) s is before t h =
      let s1 : Reading = begin_fields s place f in
      node_same kept base place next s (after_fields survey_rules s1 f es) before (fields_same kept own f es s1 ∙ own.on_begin place f s) h
  grow_node kept own base place next (closed f content) s is before t h =
      node_added kept base place next s (after_closed s place f content) is before (own.on_closed place f content s) h
  grow_node kept own base place next (package_lost form why) s is before t h =
      node_same kept base place next s (after_lost s place (Some form)) before (own.on_lost place (Some form) s) h
  grow_node kept own base place next (data_lost form why) s is before t h = node_same kept base place next s (after_lost s place None) before (own.on_lost place None s) h
  grow_node kept own base place next (name_lost n form why) s is before t h = node_same kept base place next s (after_name s place n) before (own.on_name place n s) h

  grow_nodes : (kept : Reading → List ℕ) → AddsOwn kept → (base start end : ℕ) (ns : NodeTrees) (s : Reading) → s.base ≡ base → Tiles start end ns → GrowTo kept base start s
      → GrowTo kept base end (after_all survey_rules s ns)
  grow_nodes kept own base start end no_more s is t h = grow_up 0 (base + start) (base + end) (kept s) (omega (arith, t)) h
  grow_nodes kept own base start end (lost place why) s is t h = grow_up 0 (base + start) (base + end) (kept s) (omega (arith, t.1)) h
  grow_nodes kept own base start end (node place n ns) s is t h =
      grow_nodes kept own base t.0 end ns (after survey_rules place s n) (base_after place n s ∙ is) t.5
      (grow_node kept own base place t.0 n s is (omega (arith, t.1, t.2)) t.4 (grow_up 0 (base + start) (base + place) (kept s) (omega (arith, t.1)) h))

-- ---- behind tables

tables_kept : (kept : Reading → List ℕ) → AddsOwn kept → (depth number : ℕ) (s last : Reading) (ts : List SurveyedTable) → AreTables depth number s ts last
    → Grow 0 (place_in number 0) (kept s) → (end : ℕ) × Grow 0 end (kept last)
tables_kept kept own depth number s last [] h g = (place_in number 0, subst (λ (r : Reading). Grow 0 (place_in number 0) (kept r)) (sym h) g)
tables_kept kept own depth number s last (t ∷ ts) h g =
    let base : ℕ = place_in number 0 in
    let code : List ℕ = code_read t.judged in
    let here : Reading = at_table number s in
    let there : Reading = behind_nodes number s t in
    let tiles : Tiles 0 (length code) (nodes_view t.nodes) = outline_tiles survey_rules here depth code (nodes_view t.nodes) h.0.outline in
    let short : length code ≤ 2 ^ 64 = code_short number t.bytes t.judged h.0.judged in
    let before : GrowTo kept base 0 here = subst (Grow 0 (base + 0)) (sym (own.on_table number s)) (grow_up 0 base (base + 0) (kept s) (omega arith) g) in
    let read : GrowTo kept base (length code) there = grow_nodes kept own base 0 (length code) (nodes_view t.nodes) here refl tiles before in
    let next : Grow 0 (place_in (suc number) 0) (kept there) = grow_up 0 (base + length code) (place_in (suc number) 0) (kept there) (omega (arith, short)) read in
    tables_kept kept own depth (suc number) (behind_table there) last ts h.1 (subst (Grow 0 (place_in (suc number) 0)) (sym (own.on_behind there)) next)

-- .. which are read from the first on
first_kept : (kept : Reading → List ℕ) → AddsOwn kept → kept first_reading ≡ [] → (depth : ℕ) (last : Reading) (ts : List SurveyedTable) → AreTables depth 0 first_reading ts last
    → (end : ℕ) × Grow 0 end (kept last)
first_kept kept own none depth last ts h =
    let start : Grow 0 0 [] = omega arith in
    tables_kept kept own depth 0 first_reading last ts h (grow_up 0 0 (place_in 0 0) (kept first_reading) (omega arith) (subst (Grow 0 0) (sym none) start))

-- ---- Scopes

abbrev opened_places : Reading → List ℕ
opened_places s = map (λ (o : ℕ × Path). o.0) s.opened

opened_added : (place : ℕ) (o : Result Path Why) (os : List (ℕ × Path)) → IsAdded (map (λ (o : ℕ × Path). o.0) os) place (map (λ (o : ℕ × Path). o.0) (with_opened place o os))
opened_added place (Ok p) os = inr (map_push (λ (o : ℕ × Path). o.0) os (place, p))
opened_added place (Err why) os = inl refl

opened_operator : (place : ℕ) (op : Op) (s : Reading) → opened_places (after_doing (operator_at place op no_nodes) (Some 0) s) ≡ opened_places s
opened_operator place ops.Return s = refl
opened_operator place ops.Break s = refl
opened_operator place ops.Continue s = refl
opened_operator place op s = refl

opened_past : (place : ℕ) (p : PlainTree) (s : Reading) → opened_places (past_plain s place p) ≡ opened_places s
opened_past place (outline.term (declare form before n behind)) s = refl
opened_past place (outline.term (apply op vs)) s = opened_operator (s.base + place) op s
opened_past place (outline.term t) s = refl
opened_past place (outline.external x) s = refl
opened_past place (outline.alias source n) s = refl
opened_past place (outline.table_region n vs) s = refl

opened_plain : (place : ℕ) (p : PlainTree) (s : Reading) → opened_places (after_plain s place p) ≡ opened_places s
opened_plain place p s = opened_past place p (noticing (s.base + place) (names_used_in_plain Call p) s)

opened_enter : (place : ℕ) (f : FixedTree) (s : Reading) → IsAdded (opened_places s) (s.base + place) (opened_places (enter s place f))
opened_enter place (outline.scope n) s = opened_added (s.base + place) (opened_at s.walk.known s.walk.around.scope n) s.opened
opened_enter place (container form n vs) s = inl refl
opened_enter place (if_so v) s = inl refl
opened_enter place otherwise s = inl refl
opened_enter place (while_so v) s = inl refl
opened_enter place f s = inl refl

opened_closed : (place : ℕ) (f : FixedTree) (content : List ℕ) (s : Reading) → IsAdded (opened_places s) (s.base + place) (opened_places (after_closed s place f content))
opened_closed place (outline.scope n) content s = opened_added (s.base + place) (opened_at s.walk.known s.walk.around.scope n) s.opened
opened_closed place (container form n vs) content s = inl refl
opened_closed place (method n flags) content s = inl refl
opened_closed place f content s = inl refl

opened_lost : (place : ℕ) (form : Option PackedForm) (s : Reading) → opened_places (after_lost s place form) ≡ opened_places s
opened_lost place (Some forms.If) s = refl
opened_lost place form s = refl

opened_field : (place : ℕ) (f : FixedTree) (e : FieldTree) (s : Reading) → opened_places (after_field s place f e) ≡ opened_places s
opened_field place f (unit g bits) s = refl
opened_field place f e s = refl

opened_own : AddsOwn opened_places
opened_own = record {
  on_plain = λ place p s. inl (opened_plain place p s);
  on_enter = opened_enter;
  on_closed = opened_closed;
  on_name = λ place n s. refl;
  on_lost = opened_lost;
  on_field = opened_field;
  on_begin = λ place f s. refl;
  on_leave = λ s. refl;
  on_table = λ number s. refl;
  on_behind = λ s. refl;
}

opened_first : opened_places first_reading ≡ []
unfolding first_reading with_object
opened_first = refl

pub scopes_in_order : (depth : ℕ) (last : Reading) (ts : List SurveyedTable) → AreTables depth 0 first_reading ts last → IsNonDecreasingBy (λ (o : ℕ × Path). o.0) last.opened
scopes_in_order depth last ts h =
    let grow = first_kept opened_places opened_own opened_first depth last ts h in
    in_order (λ (o : ℕ × Path). o.0) 0 grow.0 last.opened grow.1

-- ---- Aliases

abbrev source_places : Reading → List ℕ
source_places s = map (λ (x : AliasSource). x.place) s.sources

sources_operator : (place : ℕ) (op : Op) (s : Reading) → source_places (after_doing (operator_at place op no_nodes) (Some 0) s) ≡ source_places s
sources_operator place ops.Return s = refl
sources_operator place ops.Break s = refl
sources_operator place ops.Continue s = refl
sources_operator place op s = refl

sources_past : (place : ℕ) (p : PlainTree) (s : Reading) → IsAdded (source_places s) (s.base + place) (source_places (past_plain s place p))
sources_past place (outline.term (declare form before n behind)) s = inl refl
sources_past place (outline.term (apply op vs)) s = inl (sources_operator (s.base + place) op s)
sources_past place (outline.term t) s = inl refl
sources_past place (outline.external x) s = inl refl
sources_past place (outline.alias source n) s = inr (map_push (λ (x : AliasSource). x.place) s.sources (source_at s (s.base + place) source))
sources_past place (outline.table_region n vs) s = inl refl

sources_plain : (place : ℕ) (p : PlainTree) (s : Reading) → IsAdded (source_places s) (s.base + place) (source_places (after_plain s place p))
sources_plain place p s = sources_past place p (noticing (s.base + place) (names_used_in_plain Call p) s)

sources_enter : (place : ℕ) (f : FixedTree) (s : Reading) → source_places (enter s place f) ≡ source_places s
sources_enter place (outline.scope n) s = refl
sources_enter place (container form n vs) s = refl
sources_enter place (if_so v) s = refl
sources_enter place otherwise s = refl
sources_enter place (while_so v) s = refl
sources_enter place f s = refl

sources_closed : (place : ℕ) (f : FixedTree) (content : List ℕ) (s : Reading) → source_places (after_closed s place f content) ≡ source_places s
sources_closed place (outline.scope n) content s = refl
sources_closed place (container form n vs) content s = refl
sources_closed place (method n flags) content s = refl
sources_closed place f content s = refl

sources_lost : (place : ℕ) (form : Option PackedForm) (s : Reading) → source_places (after_lost s place form) ≡ source_places s
sources_lost place (Some forms.If) s = refl
sources_lost place form s = refl

sources_field : (place : ℕ) (f : FixedTree) (e : FieldTree) (s : Reading) → source_places (after_field s place f e) ≡ source_places s
sources_field place f (unit g bits) s = refl
sources_field place f e s = refl

sources_own : AddsOwn source_places
sources_own = record {
  on_plain = sources_plain;
  on_enter = λ place f s. inl (sources_enter place f s);
  on_closed = λ place f content s. inl (sources_closed place f content s);
  on_name = λ place n s. refl;
  on_lost = sources_lost;
  on_field = sources_field;
  on_begin = λ place f s. refl;
  on_leave = λ s. refl;
  on_table = λ number s. refl;
  on_behind = λ s. refl;
}

sources_first : source_places first_reading ≡ []
unfolding first_reading with_object
sources_first = refl

pub aliases_in_order : (depth : ℕ) (last : Reading) (ts : List SurveyedTable) → AreTables depth 0 first_reading ts last → IsNonDecreasingBy (λ (x : AliasSource). x.place) last.sources
aliases_in_order depth last ts h =
    let grow = first_kept source_places sources_own sources_first depth last ts h in
    in_order (λ (x : AliasSource). x.place) 0 grow.0 last.sources grow.1

-- ---- a survey

pub survey_in_order : (depth : ℕ) (s : Survey) → AreTables depth 0 first_reading s.tables.items s.reading → IsInOrder s
survey_in_order depth s h = record {
  tile = all_tile depth 0 first_reading s.reading s.tables.items h;
  entries = entries_in_order depth s.reading s.tables.items h;
  opened = scopes_in_order depth s.reading s.tables.items h;
  sources = aliases_in_order depth s.reading s.tables.items h;
}
