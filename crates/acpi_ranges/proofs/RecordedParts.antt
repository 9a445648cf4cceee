-- What parts of tables do is recorded: their terms are those of entries, or refused.
use Rattle.std.proofs.Common.{◌≡◌, ◌==◌, ◌+◌, ◌-◌, ◌%◌, ◌^◌, ◌≤◌, ℕ, zero, suc, Bool, true, false, true≢false, cond, is_ok, List, [], ◌∷◌, ◌++◌, append_assoc, append-nil, length, length-append, drop, slice_get, ◌⊎◌, inl, inr, Option, Some, None, refl, sym, ap, subst, ◌∙◌, Result, Ok, Err, arith}
use Rattle.std.specs.Option.{option_or, option_and_then}
use Rattle.std.proofs.lemmas.Nat.{div-add-mod'}
use Rattle.std.proofs.lemmas.Bool.{eqb-true}
use Rattle.acpi_space.specs.Laws.{Among}
use Rattle.acpi_space.proofs.Elements.{among_left, among_right, one_some}
use Rattle.acpi_tree.specs.declared.op.Op.{Op}
use Rattle.acpi_tree.specs.declared.op.Op.TheVariants as ops
use Rattle.acpi_tree.specs.Tree.{FieldTree, unit}
use Rattle.acpi_tree.specs.Terms.{apply, declare}
use Rattle.acpi_outline.specs.declared.fault.LostFault.{LostFault}
use Rattle.acpi_outline.specs.declared.form.PackedForm.{PackedForm}
use Rattle.acpi_outline.specs.declared.form.PackedForm.TheVariants as forms
use Rattle.acpi_outline.specs.Nodes as outline
use Rattle.acpi_outline.specs.Nodes.{PlainTree, FixedTree, container, method, if_so, otherwise, while_so, units, FieldNodes, no_more_fields, fields_lost, field_node}
use Rattle.acpi_outline.specs.Nodes.{NodeTree, plain, holds, holds_fields, closed, package_lost, data_lost, name_lost, NodeTrees, no_more, lost, node}
use Rattle.acpi_outline.specs.Rules.{goes_into, after_fields, after, after_all}
use Rattle.acpi_outline.specs.Outline.{IsNode, AreNodes}
use Rattle.acpi_outline.specs.View.{nodes_view}
use Rattle.acpi_pieces.specs.Tables.{code_read}
use Rattle.acpi_conditions.specs.Nodes.{Place, Term, Stop, returns, breaks, continues, Nodes, no_nodes, declares, opens}
use Rattle.acpi_conditions.specs.Entries.{Path, Entry, Why, Refusal}
use Rattle.acpi_conditions.specs.Known.{declared_at, opened_at}
use Rattle.acpi_conditions.specs.Survey.{Survey, empty_survey, refusing, entry_at, declaring_as, stopping as stopping_at}
use Rattle.acpi_conditions.specs.Walk as walks
use Rattle.acpi_conditions.specs.Walk.{Package, Walk, passed, leave_from, through, enter_scope_as, enter_term_as}
use Rattle.acpi_needs.specs.Needs.{names_in_all, names_before}
use Rattle.acpi_survey.specs.Nodes.{term_at, unit_at, operator_at, plain_at, package_at, element_at, operands_of}
use Rattle.acpi_survey.specs.declared.name_uses.NameUse.TheVariants.{Call}
use Rattle.acpi_survey.specs.NameUses.{names_used_in_plain}
use Rattle.acpi_survey.specs.Reading.{Reading, survey_rules, count_at, with_source, passing, stopping, declaring, after_doing, noticing, past_plain, after_plain, with_opened, noticing_fixed, into, enter, begin_fields, leave, after_field, after_closed, after_lost}
use Rattle.acpi_survey.specs.Predefined.{first_reading, with_object, predefined_count}
use Rattle.acpi_survey.specs.Survey.{place_in, at_table, behind_table}
use Rattle.acpi_survey.specs.Surveys.{AreTables, behind_nodes}
use Rattle.acpi_survey.specs.declared.machine_survey.SurveyedTable.{SurveyedTable}
use Rattle.acpi_survey.proofs.Walking.{base_enter, base_after}
use Rattle.acpi_ranges.specs.Ranges.{first_place, first_field_place}
use Rattle.acpi_ranges.specs.Lookup.{Found, node_found, element_found, part_at}
use Rattle.acpi_ranges.specs.Sites.{table_at, byte_at}
use Rattle.acpi_ranges.specs.EntryParts.{part_in}
use Rattle.acpi_ranges.specs.Laws.{node_does, part_does, HasEntryOrRefusal, IsEnteredOrRefused, IsRecorded, PartsAreRecorded, ScopesAreEntered}
use Rattle.acpi_ranges.specs.steps.Search.{search_fields, search_node, search_nodes}
use Rattle.acpi_ranges.proofs.Searching.{part_is_searched}

-- ---- what is kept

-- entries are put behind those before, and what is refused or opened stays
record Walks (w w' : Walk) : Type 0 where
  more : List Entry
  grown : w'.entries ≡ w.entries ++ more
  refused : (r : Refusal) → Among w.refused r → Among w'.refused r

record Keeps (s s' : Reading) : Type 0 where
  walks : Walks s.walk s'.walk
  opened : (o : ℕ × Path) → Among s.opened o → Among s'.opened o

walks_both : (u v w : Walk) → Walks u v → Walks v w → Walks u w
walks_both u v w h n = record {
  more = h.more ++ n.more;
  grown = n.grown ∙ ap (λ es. es ++ n.more) h.grown ∙ append_assoc u.entries h.more n.more;
  refused = λ r m. n.refused r (h.refused r m);
}

kept_both : (s m s' : Reading) → Keeps s m → Keeps m s' → Keeps s s'
kept_both s m s' h n = record { walks = walks_both s.walk m.walk s'.walk h.walks n.walks; opened = λ o i. n.opened o (h.opened o i) }

walk_kept : (s s' : Reading) → Walks s.walk s'.walk → s'.opened ≡ s.opened → Keeps s s'
walk_kept s s' h same = record { walks = h; opened = λ o m. subst (λ (os : List (ℕ × Path)). Among os o) (sym same) m }

passed_on : (x : Survey) (w : Walk) → Walks w (passed x w)
passed_on x w = record { more = x.entries; grown = refl; refused = λ r m. among_left w.refused x.refused r m }

same_walk : (w w' : Walk) → w'.entries ≡ w.entries → w'.refused ≡ w.refused → Walks w w'
same_walk w w' es rs = record { more = []; grown = es ∙ sym (append-nil w.entries); refused = λ r m. subst (λ (rs : List Refusal). Among rs r) (sym rs) m }

same_kept : (s s' : Reading) → s'.walk.entries ≡ s.walk.entries → s'.walk.refused ≡ s.walk.refused → s'.opened ≡ s.opened → Keeps s s'
same_kept s s' es rs os = walk_kept s s' (same_walk s.walk s'.walk es rs) os

left : (ps : List Package) (w : Walk) → Walks w (leave_from ps w)
left [] w = same_walk w w refl refl
left (p ∷ ps) w = same_walk w (leave_from (p ∷ ps) w) refl refl

entered_term : (t : Term) (w : Walk) (r : Result Path Why) → Walks w (enter_term_as t w r)
entered_term t w (Ok p) = record { more = entry_at w.around w.known t p ∷ []; grown = refl; refused = λ r m. m }
entered_term t w (Err why) = passed_on (refusing t.place why w.around w.known) w

entered_scope : (place : Place) (w : Walk) (r : Result Path Why) → Walks w (enter_scope_as place w r)
entered_scope place w (Ok p) = same_walk w (enter_scope_as place w (Ok p)) refl refl
entered_scope place w (Err why) = passed_on (refusing place why w.around w.known) w

through_scope : (place : Place) (w : Walk) (r : Result Path Why) → Walks w (through r (λ w. w) (enter_scope_as place w r))
through_scope place w (Ok p) =
    let v : Walk = enter_scope_as place w (Ok p) in
    walks_both w v (walks.leave v) (entered_scope place w (Ok p)) (left v.packages v)
through_scope place w (Err why) = entered_scope place w (Err why)

opened_more : (place : ℕ) (r : Result Path Why) (os : List (ℕ × Path)) (o : ℕ × Path) → Among os o → Among (with_opened place r os) o
opened_more place (Ok p) os o m = among_left os ((place, p) ∷ []) o m
opened_more place (Err why) os o m = m

-- ---- at each node

stopped_kept : (place : ℕ) (kind : Stop) (s : Reading) → Keeps s (stopping place kind s)
stopped_kept place kind s = walk_kept s (stopping place kind s) (passed_on (stopping_at place kind s.walk.around s.walk.known) s.walk) refl

operator_kept : (place : ℕ) (op : Op) (s : Reading) → Keeps s (after_doing (operator_at place op no_nodes) (Some 0) s)
operator_kept place ops.Return s = stopped_kept place returns s
operator_kept place ops.Break s = stopped_kept place breaks s
operator_kept place ops.Continue s = stopped_kept place continues s
operator_kept place op s = same_kept s (passing s) refl refl refl

declaring_kept : (t : Term) (c : Option ℕ) (s : Reading) → Keeps s (declaring t c s)
declaring_kept t c s = walk_kept s (declaring t c s) (passed_on (declaring_as t empty_survey s.walk.around s.walk.known (declared_at s.walk.known s.walk.around.scope t.name)) s.walk) refl

past_kept : (place : ℕ) (p : PlainTree) (s : Reading) → Keeps s (past_plain s place p)
past_kept place (outline.term (declare form before n behind)) s = declaring_kept (term_at (s.base + place) n false (names_before before ++ names_in_all behind)) (Some 0) s
past_kept place (outline.term (apply op vs)) s = operator_kept (s.base + place) op s
past_kept place (outline.term t) s = same_kept s (passing s) refl refl refl
past_kept place (outline.external x) s = same_kept s (past_plain s place (outline.external x)) refl refl refl
past_kept place (outline.alias source n) s =
    let k = declaring_kept (term_at (s.base + place) n false (source ∷ [])) (count_at s source) (with_source (s.base + place) source s) in
    record { walks = k.walks; opened = k.opened }
past_kept place (outline.table_region n vs) s = declaring_kept (term_at (s.base + place) n false (names_in_all vs)) (Some 0) s

plain_kept : (place : ℕ) (p : PlainTree) (s : Reading) → Keeps s (after_plain s place p)
plain_kept place p s =
    let m : Reading = noticing (s.base + place) (names_used_in_plain Call p) s in
    kept_both s m (past_plain m place p) (same_kept s m refl refl refl) (past_kept place p m)

into_kept : (place : ℕ) (f : FixedTree) (s : Reading) → Keeps s (into s place f)
into_kept place (outline.scope n) s =
    let r : Result Path Why = opened_at s.walk.known s.walk.around.scope n in
    record { walks = entered_scope (s.base + place) s.walk r; opened = λ o m. opened_more (s.base + place) r s.opened o m }
into_kept place (container form n vs) s =
    walk_kept s (into s place (container form n vs)) (entered_term (term_at (s.base + place) n true []) s.walk (declared_at s.walk.known s.walk.around.scope n)) refl
into_kept place (if_so v) s = same_kept s (into s place (if_so v)) refl refl refl
into_kept place otherwise s = same_kept s (into s place otherwise) refl refl refl
into_kept place (while_so v) s = same_kept s (into s place (while_so v)) refl refl refl
into_kept place f s = same_kept s s refl refl refl

enter_kept : (place : ℕ) (f : FixedTree) (s : Reading) → Keeps s (enter s place f)
enter_kept place f s =
    let m : Reading = noticing_fixed s place f in
    kept_both s m (into m place f) (same_kept s m refl refl refl) (into_kept place f m)

leave_kept : (s : Reading) → Keeps s (leave s)
leave_kept s = walk_kept s (leave s) (left s.walk.packages s.walk) refl

closed_kept : (place : ℕ) (f : FixedTree) (content : List ℕ) (s : Reading) → Keeps s (after_closed s place f content)
closed_kept place (outline.scope n) content s =
    let r : Result Path Why = opened_at s.walk.known s.walk.around.scope n in
    record { walks = through_scope (s.base + place) s.walk r; opened = λ o m. opened_more (s.base + place) r s.opened o m }
closed_kept place (container form n vs) content s = declaring_kept (term_at (s.base + place) n true []) (Some 0) s
closed_kept place (method n flags) content s = declaring_kept (term_at (s.base + place) n false []) (Some (flags % 8)) s
closed_kept place (if_so v) content s = same_kept s (passing s) refl refl refl
closed_kept place otherwise content s = same_kept s (passing s) refl refl refl
closed_kept place (while_so v) content s = same_kept s (passing s) refl refl refl
closed_kept place (units form ns vs) content s = same_kept s (passing s) refl refl refl

lost_kept : (place : ℕ) (form : PackedForm) (s : Reading) → Keeps s (after_lost s place (Some form))
lost_kept place forms.If s = same_kept s (after_lost s place (Some forms.If)) refl refl refl
lost_kept place form s = same_kept s (passing s) refl refl refl

field_kept : (place : ℕ) (f : FixedTree) (e : FieldTree) (s : Reading) → Keeps s (after_field s place f e)
field_kept place f (unit g bits) s = declaring_kept (unit_at (s.base + place) g (operands_of f)) (Some 0) s
field_kept place f e s = same_kept s (passing s) refl refl refl

fields_kept : (f : FixedTree) (es : FieldNodes) (s : Reading) → Keeps s (after_fields survey_rules s f es)
fields_kept f no_more_fields s = same_kept s s refl refl refl
fields_kept f (fields_lost place why) s = same_kept s s refl refl refl
fields_kept f (field_node place offset e es) s =
    kept_both s (after_field s place f e) (after_fields survey_rules (after_field s place f e) f es) (field_kept place f e s) (fields_kept f es (after_field s place f e))

mutual
  node_kept : (place : ℕ) (n : NodeTree) (s : Reading) → Keeps s (after survey_rules place s n)
  node_kept place (plain p) s = plain_kept place p s
  node_kept place (holds f ns) s =
      let inside : Reading = after_all survey_rules (enter s place f) ns in
      kept_both s inside (leave inside) (kept_both s (enter s place f) inside (enter_kept place f s) (nodes_kept ns (enter s place f))) (leave_kept inside)
  node_kept place (holds_fields f es) s =
      let m : Reading = begin_fields s place f in
      kept_both s m (after_fields survey_rules m f es) (same_kept s m refl refl refl) (fields_kept f es m)
  node_kept place (closed f content) s = closed_kept place f content s
  node_kept place (package_lost form why) s = lost_kept place form s
  node_kept place (data_lost form why) s = same_kept s (passing s) refl refl refl
  node_kept place (name_lost n form why) s = declaring_kept (term_at (s.base + place) n false []) (Some 0) s

  nodes_kept : (ns : NodeTrees) (s : Reading) → Keeps s (after_all survey_rules s ns)
  nodes_kept no_more s = same_kept s s refl refl refl
  nodes_kept (lost place why) s = same_kept s s refl refl refl
  nodes_kept (node place n ns) s =
      kept_both s (after survey_rules place s n) (after_all survey_rules (after survey_rules place s n) ns) (node_kept place n s) (nodes_kept ns (after survey_rules place s n))

table_kept : (number : ℕ) (s : Reading) (t : SurveyedTable) → Keeps s (behind_nodes number s t)
table_kept number s t = let k = nodes_kept (nodes_view t.nodes) (at_table number s) in record { walks = k.walks; opened = k.opened }

end_kept : (s : Reading) → Keeps s (behind_table s)
end_kept s = same_kept s (behind_table s) refl refl refl

tables_kept : (depth number : ℕ) (s last : Reading) (ts : List SurveyedTable) → AreTables depth number s ts last → Keeps s last
tables_kept depth number s last [] h = subst (λ (r : Reading). Keeps s r) (sym h) (same_kept s s refl refl refl)
tables_kept depth number s last (t ∷ ts) h =
    let there : Reading = behind_nodes number s t in
    kept_both s there last (table_kept number s t) (kept_both there (behind_table there) last (end_kept there) (tables_kept depth (suc number) (behind_table there) last ts h.1))

-- ---- entries behind the predefined ones

-- the predefined objects are among the entries
abbrev IsBegun : Reading → Type 0
IsBegun s = predefined_count ≤ length s.walk.entries

begun_later : (s s' : Reading) → Keeps s s' → IsBegun s → IsBegun s'
begun_later s s' k h = omega (arith, h, ap length k.walks.grown, length-append s.walk.entries k.walks.more)

dropped_first : (n : ℕ) (es fs : List Entry) (e : Entry) → Among (drop n es) e → Among (drop n (es ++ fs)) e
dropped_first zero es fs e m = among_left es fs e m
dropped_first (suc n) [] fs e m = absurd m
dropped_first (suc n) (x ∷ es) fs e m = dropped_first n es fs e m

dropped_second : (n : ℕ) (es fs : List Entry) (e : Entry) → n ≤ length es → Among fs e → Among (drop n (es ++ fs)) e
dropped_second zero es fs e h m = among_right es fs e m
dropped_second (suc n) [] fs e h m = absurd (omega (arith, h))
dropped_second (suc n) (x ∷ es) fs e h m = dropped_second n es fs e (omega (arith, h)) m

term_later : (s s' : Reading) → Keeps s s' → (t : Term) → HasEntryOrRefusal s t → HasEntryOrRefusal s' t
term_later s s' k t (inl e) =
    inl (e.0, subst (λ (es : List Entry). Among (drop predefined_count es) e.0) (sym k.walks.grown) (dropped_first predefined_count s.walk.entries k.walks.more e.0 e.1), e.2)
term_later s s' k t (inr r) = inr (r.0, k.walks.refused r.0 r.1, r.2)

scope_later : (s s' : Reading) → Keeps s s' → (place : Place) → IsEnteredOrRefused s place → IsEnteredOrRefused s' place
scope_later s s' k place (inl p) = inl (p.0, k.opened (place, p.0) p.1)
scope_later s s' k place (inr r) = inr (r.0, k.walks.refused r.0 r.1, r.2)

recorded_later : (s s' : Reading) → Keeps s s' → (ns : Nodes) → IsRecorded s ns → IsRecorded s' ns
recorded_later s s' k (declares t inside rest) h = term_later s s' k t h
recorded_later s s' k (opens place n inside rest) h = scope_later s s' k place h
recorded_later s s' k _ h = tt

-- ---- what each node does is recorded

-- the term, which control may declare or refuse
abbrev HasEntryOrRefusalIn : List Entry → List Refusal → Term → Type 0
HasEntryOrRefusalIn es rs t = ((e : Entry) × Among (drop predefined_count es) e × (e.term ≡ t)) ⊎ ((r : Refusal) × Among rs r × (r.place ≡ t.place))

module _ (t : Term) (w : Walk) (begun : predefined_count ≤ length w.entries) where
  entry_there : (p : Path) (rs : List Refusal) → HasEntryOrRefusalIn (w.entries ++ entry_at w.around w.known t p ∷ []) rs t
  entry_there p rs =
      let own : Entry = entry_at w.around w.known t p in
      inl (own, dropped_second predefined_count w.entries (own ∷ []) own begun (inl refl), refl)

  refusal_there : (why : Why) (es : List Entry) → HasEntryOrRefusalIn es (w.refused ++ record { place = t.place; why = why } ∷ []) t
  refusal_there why es =
      let own : Refusal = record { place = t.place; why = why } in
      inr (own, among_right w.refused (own ∷ []) own (inl refl), refl)

  declared_recorded : HasEntryOrRefusalIn (walks.declare t w).entries (walks.declare t w).refused t
  declared_recorded = by (declared_at w.known w.around.scope t.name)
    where
      by : (r : Result Path Why) → HasEntryOrRefusalIn (w.entries ++ (declaring_as t empty_survey w.around w.known r).entries) (w.refused ++ (declaring_as t empty_survey w.around w.known r).refused) t
      by (Ok p) = entry_there p (w.refused ++ [])
      by (Err why) = refusal_there why (w.entries ++ [])

  entered_term_recorded : (r : Result Path Why) → HasEntryOrRefusalIn (enter_term_as t w r).entries (enter_term_as t w r).refused t
  entered_term_recorded (Ok p) = entry_there p w.refused
  entered_term_recorded (Err why) = refusal_there why (w.entries ++ [])

-- a Scope is entered, or refused
module _ (place : Place) (w : Walk) (os : List (ℕ × Path)) where
  abbrev IsOpenedIn : Result Path Why → List Refusal → Type 0
  IsOpenedIn r rs = ((p : Path) × Among (with_opened place r os) (place, p)) ⊎ ((q : Refusal) × Among rs q × (q.place ≡ place))

  now_opened : (p : Path) → Among (with_opened place (Ok p) os) (place, p)
  now_opened p = among_right os ((place, p) ∷ []) (place, p) (inl refl)

  scope_refused : (why : Why) → IsOpenedIn (Err why) (enter_scope_as place w (Err why)).refused
  scope_refused why =
      let own : Refusal = record { place = place; why = why } in
      inr (own, among_right w.refused (own ∷ []) own (inl refl), refl)

  scope_recorded : (r : Result Path Why) → IsOpenedIn r (enter_scope_as place w r).refused
  scope_recorded (Ok p) = inl (p, now_opened p)
  scope_recorded (Err why) = scope_refused why

  passed_scope_recorded : (r : Result Path Why) → IsOpenedIn r (through r (λ w. w) (enter_scope_as place w r)).refused
  passed_scope_recorded (Ok p) = inl (p, now_opened p)
  passed_scope_recorded (Err why) = scope_refused why

  scope_opened : (r : Result Path Why) → is_ok r ≡ true → (p : Path) × Among (with_opened place r os) (place, p)
  scope_opened (Ok p) is = (p, now_opened p)
  scope_opened (Err why) is = absurd (true≢false (sym is))

operator_recorded : (place : ℕ) (op : Op) (s : Reading) → IsRecorded s (operator_at place op no_nodes)
operator_recorded place ops.Return s = tt
operator_recorded place ops.Break s = tt
operator_recorded place ops.Continue s = tt
operator_recorded place op s = tt

plain_recorded : (place : ℕ) (p : PlainTree) (s : Reading) → IsBegun s → IsRecorded (after_plain s place p) (plain_at (s.base + place) p no_nodes)
plain_recorded place (outline.term (declare form before n behind)) s h = declared_recorded (term_at (s.base + place) n false (names_before before ++ names_in_all behind)) s.walk h
plain_recorded place (outline.term (apply op vs)) s h = operator_recorded (s.base + place) op (after_plain s place (outline.term (apply op vs)))
plain_recorded place (outline.term t) s h = tt
plain_recorded place (outline.external x) s h = tt
plain_recorded place (outline.alias source n) s h = declared_recorded (term_at (s.base + place) n false (source ∷ [])) s.walk h
plain_recorded place (outline.table_region n vs) s h = declared_recorded (term_at (s.base + place) n false (names_in_all vs)) s.walk h

entered_recorded : (place : ℕ) (f : FixedTree) (s : Reading) → IsBegun s → goes_into survey_rules s f ≡ true → IsRecorded (enter s place f) (package_at (s.base + place) f no_nodes no_nodes)
entered_recorded place (outline.scope n) s h into = scope_recorded (s.base + place) s.walk s.opened (opened_at s.walk.known s.walk.around.scope n)
entered_recorded place (container form n vs) s h into = entered_term_recorded (term_at (s.base + place) n true []) s.walk h (declared_at s.walk.known s.walk.around.scope n)
entered_recorded place (method n flags) s h into = absurd (true≢false (sym into))
entered_recorded place (if_so v) s h into = tt
entered_recorded place otherwise s h into = tt
entered_recorded place (while_so v) s h into = tt
entered_recorded place (units form ns vs) s h into = tt

closed_recorded : (place : ℕ) (f : FixedTree) (content : List ℕ) (s : Reading) → IsBegun s → IsRecorded (after_closed s place f content) (package_at (s.base + place) f no_nodes no_nodes)
closed_recorded place (outline.scope n) content s h = passed_scope_recorded (s.base + place) s.walk s.opened (opened_at s.walk.known s.walk.around.scope n)
closed_recorded place (container form n vs) content s h = declared_recorded (term_at (s.base + place) n true []) s.walk h
closed_recorded place (method n flags) content s h = declared_recorded (term_at (s.base + place) n false []) s.walk h
closed_recorded place (if_so v) content s h = tt
closed_recorded place otherwise content s h = tt
closed_recorded place (while_so v) content s h = tt
closed_recorded place (units form ns vs) content s h = tt

field_recorded : (place : ℕ) (f : FixedTree) (e : FieldTree) (s : Reading) → IsBegun s → IsRecorded (after_field s place f e) (element_at (s.base + place) (operands_of f) e no_nodes)
field_recorded place f (unit g bits) s h = declared_recorded (unit_at (s.base + place) g (operands_of f)) s.walk h
field_recorded place f e s h = tt

node_recorded : (level place end : ℕ) (n : NodeTree) (s : Reading) (bytes : List ℕ) → IsNode survey_rules level place end s n bytes → IsBegun s → IsRecorded (after survey_rules place s n) (node_does (s.base + place) n)
node_recorded level place end (plain p) s bytes h b = plain_recorded place p s b
node_recorded level place end (holds f ns) s bytes h b =
    let inside : Reading = after_all survey_rules (enter s place f) ns in
    recorded_later (enter s place f) (leave inside) (kept_both (enter s place f) inside (leave inside) (nodes_kept ns (enter s place f)) (leave_kept inside)) (package_at (s.base + place) f no_nodes no_nodes)
    (entered_recorded place f s b h.3)
node_recorded level place end (holds_fields f es) s bytes h b = tt
node_recorded level place end (closed f content) s bytes h b = closed_recorded place f content s b
node_recorded level place end (package_lost form why) s bytes h b = lost_recorded form why (s.base + place) (after_lost s place (Some form))
  where
    lost_recorded : (form : PackedForm) (why : LostFault) (place : ℕ) (s : Reading) → IsRecorded s (node_does place (package_lost form why))
    lost_recorded forms.If why place s = tt
    lost_recorded form why place s = tt
node_recorded level place end (data_lost form why) s bytes h b = tt
node_recorded level place end (name_lost n form why) s bytes h b = declared_recorded (term_at (s.base + place) n false []) s.walk b

-- a Scope whose inside is read was entered
abbrev WasEntered : Reading → ℕ → Found → Type 0
WasEntered s q (node_found to (holds (outline.scope n) ns)) = (p : Path) × Among s.opened (q, p)
WasEntered s q x = Unit {0}

held_entered : (level place end : ℕ) (f : FixedTree) (ns : NodeTrees) (s : Reading) (to : ℕ) → goes_into survey_rules s f ≡ true → WasEntered (after survey_rules place s (holds f ns)) (s.base + place) (node_found to (holds f ns))
held_entered level place end (outline.scope n) ns s to into =
    let first : Reading = enter s place (outline.scope n) in
    let inside : Reading = after_all survey_rules first ns in
    let o = scope_opened (s.base + place) s.walk s.opened (opened_at s.walk.known s.walk.around.scope n) into in
    (o.0, (kept_both first inside (leave inside) (nodes_kept ns first) (leave_kept inside)).opened (s.base + place, o.0) o.1)
held_entered level place end f ns s to into = tt

node_entered : (level place end : ℕ) (n : NodeTree) (s : Reading) (bytes : List ℕ) → IsNode survey_rules level place end s n bytes → (to : ℕ) → WasEntered (after survey_rules place s n) (s.base + place) (node_found to n)
node_entered level place end (holds f ns) s bytes h to = held_entered level place end f ns s to h.3
node_entered level place end n s bytes h to = tt

entered_later : (s s' : Reading) (q : ℕ) (x : Found) → Keeps s s' → WasEntered s q x → WasEntered s' q x
entered_later s s' q (node_found to (holds (outline.scope n) ns)) k h = (h.0, k.opened (q, h.0) h.1)
entered_later s s' q x k h = tt

-- ---- what is so of each node, is so of what is found

base_field : (place : ℕ) (f : FixedTree) (e : FieldTree) (s : Reading) → (after_field s place f e).base ≡ s.base
base_field place f (unit g bits) s = refl
base_field place f e s = refl

module _ (IsSo : Reading → ℕ → Found → Type 0) (later : (s s' : Reading) (q : ℕ) (x : Found) → Keeps s s' → IsSo s q x → IsSo s' q x)
    (at_node : (level place end : ℕ) (n : NodeTree) (s : Reading) (bytes : List ℕ) → IsNode survey_rules level place end s n bytes → IsBegun s → (to : ℕ) → IsSo (after survey_rules place s n) (s.base + place) (node_found to n))
    (at_field : (place : ℕ) (f : FixedTree) (e : FieldTree) (s : Reading) → IsBegun s → (to offset : ℕ) → IsSo (after_field s place f e) (s.base + place) (element_found to f offset e)) where
  fields_so : (base p stop : ℕ) (f : FixedTree) (es : FieldNodes) (s : Reading) → s.base ≡ base → IsBegun s → (x : Found) → search_fields p stop f es ≡ Some x → IsSo (after_fields survey_rules s f es) (base + p) x
  fields_so base p stop f no_more_fields s is b x e = let none : ⊥ = cc in absurd none
  fields_so base p stop f (fields_lost q why) s is b x e = let none : ⊥ = cc in absurd none
  fields_so base p stop f (field_node q offset u es) s is b x e =
      by (q == p) refl e (λ e. fields_so base p stop f es (after_field s q f u) (base_field q f u s ∙ is) (begun_later s (after_field s q f u) (field_kept q f u s) b) x e)
    where
      here : q ≡ p → IsSo (after_field s q f u) (base + p) (element_found (first_field_place stop es) f offset u)
      here same = subst (λ (c : ℕ). IsSo (after_field s q f u) (c + p) (element_found (first_field_place stop es) f offset u)) is
          (subst (λ (p : ℕ). IsSo (after_field s q f u) (s.base + p) (element_found (first_field_place stop es) f offset u)) same (at_field q f u s b (first_field_place stop es) offset))

      by : (c : Bool) → (q == p) ≡ c → cond c (Some (element_found (first_field_place stop es) f offset u)) (search_fields p stop f es) ≡ Some x
          → (search_fields p stop f es ≡ Some x → IsSo (after_fields survey_rules (after_field s q f u) f es) (base + p) x) → IsSo (after_fields survey_rules (after_field s q f u) f es) (base + p) x
      by true at e more = later (after_field s q f u) (after_fields survey_rules (after_field s q f u) f es) (base + p) x (fields_kept f es (after_field s q f u))
          (subst (IsSo (after_field s q f u) (base + p)) (one_some (element_found (first_field_place stop es) f offset u) x e) (here (eqb-true q p at)))
      by false at e more = more e

  mutual
    inside_so : (level place end : ℕ) (base p stop : ℕ) (n : NodeTree) (s : Reading) (bytes : List ℕ) → IsNode survey_rules level place end s n bytes → s.base ≡ base → IsBegun s → (x : Found)
        → search_node p stop n ≡ Some x → IsSo (after survey_rules place s n) (base + p) x
    inside_so level place end base p stop (holds f ns) s bytes h is b x e =
        let first : Reading = enter s place f in
        let inside : Reading = after_all survey_rules first ns in
        later inside (leave inside) (base + p) x (leave_kept inside) (nodes_so level end base p stop ns first h.1 h.4 (base_enter place f s ∙ is) (begun_later s first (enter_kept place f s) b) x e)
    inside_so level place end base p stop (holds_fields f es) s bytes h is b x e = fields_so base p stop f es (begin_fields s place f) is b x e
    inside_so level place end base p stop n s bytes h is b x e = let none : ⊥ = cc in absurd none

    nodes_so : (level end : ℕ) (base p stop : ℕ) (ns : NodeTrees) (s : Reading) (bytes : List ℕ) → AreNodes survey_rules level end s ns bytes → s.base ≡ base → IsBegun s → (x : Found)
        → search_nodes p stop ns ≡ Some x → IsSo (after_all survey_rules s ns) (base + p) x
    nodes_so level end base p stop no_more s bytes h is b x e = let none : ⊥ = cc in absurd none
    nodes_so level end base p stop (lost q why) s bytes h is b x e = let none : ⊥ = cc in absurd none
    nodes_so level end base p stop (node q n ns) s bytes h is b x e =
        by (q == p) refl (search_node p (first_place stop ns) n) refl e (λ y e. inside_so h.2 q (end - length h.1) base p (first_place stop ns) n s h.0 h.5 is b y e)
        (λ e. nodes_so level end base p stop ns (after survey_rules q s n) h.1 h.6 (base_after q n s ∙ is) (begun_later s (after survey_rules q s n) (node_kept q n s) b) x e)
      where
        here : q ≡ p → IsSo (after survey_rules q s n) (base + p) (node_found (first_place stop ns) n)
        here same = subst (λ (c : ℕ). IsSo (after survey_rules q s n) (c + p) (node_found (first_place stop ns) n)) is
            (subst (λ (p : ℕ). IsSo (after survey_rules q s n) (s.base + p) (node_found (first_place stop ns) n)) same (at_node h.2 q (end - length h.1) n s h.0 h.5 b (first_place stop ns)))

        on : (y : Found) → IsSo (after survey_rules q s n) (base + p) y → IsSo (after_all survey_rules (after survey_rules q s n) ns) (base + p) y
        on y k = later (after survey_rules q s n) (after_all survey_rules (after survey_rules q s n) ns) (base + p) y (nodes_kept ns (after survey_rules q s n)) k

        by : (c : Bool) → (q == p) ≡ c → (o : Option Found) → search_node p (first_place stop ns) n ≡ o → cond c (Some (node_found (first_place stop ns) n)) (option_or o (search_nodes p stop ns)) ≡ Some x
            → ((y : Found) → search_node p (first_place stop ns) n ≡ Some y → IsSo (after survey_rules q s n) (base + p) y)
            → (search_nodes p stop ns ≡ Some x → IsSo (after_all survey_rules (after survey_rules q s n) ns) (base + p) x) → IsSo (after_all survey_rules (after survey_rules q s n) ns) (base + p) x
        by true at o is e inner more = on x (subst (IsSo (after survey_rules q s n) (base + p)) (one_some (node_found (first_place stop ns) n) x e) (here (eqb-true q p at)))
        by false at (Some y) is e inner more = on x (subst (IsSo (after survey_rules q s n) (base + p)) (one_some y x e) (inner y is))
        by false at None is e inner more = more e

  tables_so : (depth number : ℕ) (s last : Reading) (ts : List SurveyedTable) → AreTables depth number s ts last → IsBegun s → (n m offset : ℕ) (part : Found) → number + n ≡ m
      → option_and_then (λ (t : SurveyedTable). part_at offset (length (code_read t.judged)) (nodes_view t.nodes)) (slice_get ts n) ≡ Some part → IsSo last (place_in m offset) part
  tables_so depth number s last [] h b n m offset part at found = let none : ⊥ = cc in absurd none
  tables_so depth number s last (u ∷ ts) h b (suc n) m offset part at found =
      let there : Reading = behind_nodes number s u in
      tables_so depth (suc number) (behind_table there) last ts h.1 (begun_later s (behind_table there) (kept_both s there (behind_table there) (table_kept number s u) (end_kept there)) b) n m offset part (omega (arith, at)) found
  tables_so depth number s last (u ∷ ts) h b zero m offset part at found = later (behind_nodes number s u) last (place_in m offset) part on here
    where
      on : Keeps (behind_nodes number s u) last
      on =
          let there : Reading = behind_nodes number s u in
          kept_both there (behind_table there) last (end_kept there) (tables_kept depth (suc number) (behind_table there) last ts h.1)

      same_place : place_in number 0 + offset ≡ place_in m offset
      same_place = omega (arith, at)

      found_here : search_nodes offset (length (code_read u.judged)) (nodes_view u.nodes) ≡ Some part
      found_here = sym (part_is_searched offset (length (code_read u.judged)) (nodes_view u.nodes)) ∙ found

      here : IsSo (behind_nodes number s u) (place_in m offset) part
      here = subst (λ (q : ℕ). IsSo (behind_nodes number s u) q part) same_place
          (nodes_so depth (length (code_read u.judged)) (place_in number 0) offset (length (code_read u.judged)) (nodes_view u.nodes) (at_table number s) (code_read u.judged) h.0.outline refl b part found_here)

  parts_so : (depth : ℕ) (last : Reading) (ts : List SurveyedTable) → AreTables depth 0 first_reading ts last → IsBegun first_reading → (place : Place) (part : Found) → part_in ts place ≡ Some part → IsSo last place part
  parts_so depth last ts h b place part found = subst (λ (q : ℕ). IsSo last q part) (div-add-mod' place (2 ^ 64)) (tables_so depth 0 first_reading last ts h b (table_at place) (table_at place) (byte_at place) part (omega arith) found)

-- ---- the laws

first_begun : IsBegun first_reading
unfolding first_reading with_object
first_begun = let is : length first_reading.walk.entries ≡ 10 = refl in omega (arith, is)

pub parts_are_recorded : PartsAreRecorded
parts_are_recorded depth last ts h place part found = parts_so (λ s q x. IsRecorded s (part_does q x)) (λ s s' q x k c. recorded_later s s' k (part_does q x) c)
    (λ level place end n s bytes i b to. node_recorded level place end n s bytes i b) (λ place f e s b to offset. field_recorded place f e s b) depth last ts h first_begun place part found

pub scopes_are_entered : ScopesAreEntered
scopes_are_entered depth last ts h place n held = parts_so WasEntered entered_later (λ level place end n s bytes i b to. node_entered level place end n s bytes i to) (λ place f e s b to offset. tt)
    depth last ts h first_begun place (node_found held.0 (holds (outline.scope n) held.1)) held.2
