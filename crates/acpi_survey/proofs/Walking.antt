-- A reader's walk through nodes is the walk through what they do.
use Rattle.std.proofs.Common.{is_ok, ◌≡◌, ◌+◌, ◌-◌, ◌%◌, ℕ, true, false, true≢false, List, [], ◌∷◌, ◌++◌, map, length, drop, append-nil, take-append-drop, Option, Some, None, unwrap_or, Result, Ok, Err, refl, sym, ap, subst, ◌∙◌, arith}
use Rattle.std.proofs.lemmas.List.{drop_all}
use Rattle.acpi_name.specs.Names.{NameParts}
use Rattle.acpi_tree.specs.declared.op.Op.{Op}
use Rattle.acpi_tree.specs.declared.op.Op.TheVariants as ops
use Rattle.acpi_tree.specs.Tree.{FieldTree, unit}
use Rattle.acpi_tree.specs.Terms.{TermTree, TermTrees, apply, declare}
use Rattle.acpi_outline.specs.declared.fault.LostFault.{LostFault}
use Rattle.acpi_outline.specs.declared.form.ContainerForm.{ContainerForm}
use Rattle.acpi_outline.specs.declared.form.PackedForm.{PackedForm}
use Rattle.acpi_outline.specs.declared.form.PackedForm.TheVariants as forms
use Rattle.acpi_outline.specs.Nodes as outline
use Rattle.acpi_outline.specs.Nodes.{PlainTree, FixedTree, container, method, if_so, otherwise, while_so, units, FieldNodes, no_more_fields, fields_lost, field_node}
use Rattle.acpi_outline.specs.Nodes.{NodeTree, plain, holds, holds_fields, closed, package_lost, data_lost, name_lost, NodeTrees, no_more, lost, node}
use Rattle.acpi_outline.specs.Rules.{goes_into, after_fields, after, after_all}
use Rattle.acpi_outline.specs.Outline.{IsNode, AreNodes}
use Rattle.acpi_conditions.specs.Nodes as nodes
use Rattle.acpi_conditions.specs.Nodes.{Term, Nodes, no_nodes, declares, opens, branch, loop, stop}
use Rattle.acpi_conditions.specs.Entries.{Path, past, Entry, Why, StopAt}
use Rattle.acpi_conditions.specs.Known.{is_certain_scope, declared_at, opened_at}
use Rattle.acpi_conditions.specs.Survey.{Survey, empty_survey, declaring, survey}
use Rattle.acpi_conditions.specs.Walk as walks
use Rattle.acpi_conditions.specs.Walk.{Kind, of_term, of_scope, of_first, of_other, of_body, Package, Walk, passed, pass, package_at, into_other, if_of, leave_from, leave, through, walked_term, walked_scope, walked, lost_if, enter_first, enter_other, enter_term_as, enter_term, enter_scope_as, enter_scope}
use Rattle.acpi_conditions.specs.Laws.{IsInFirst}
use Rattle.acpi_conditions.proofs.Walks.{gives_nodes, empty_else_is_none}
use Rattle.acpi_needs.specs.Needs.{names_in_all, names_before}
use Rattle.acpi_survey.specs.Nodes.{term_at, unit_at, operator_at, plain_at, package_at as package_at_place, element_at, operands_of, fields_at, Listed, no_else, listed, nodes_of}
use Rattle.acpi_survey.specs.NameUses.{names_used_in_plain}
use Rattle.acpi_survey.specs.declared.name_uses.NameUse.TheVariants.{Call}
use Rattle.acpi_survey.specs.Reading.{Reading, survey_rules, count_at, declaring as declaring_in, passing, stopping, expecting, after_doing, past_plain, after_plain, noticing, enter, begin_fields, after_field, after_closed, after_lost, with_source}

-- ---- walks that differ in whether an If stands directly before

-- they are walked on alike
walked_alike : (ns : Nodes) (u v : Walk) → pass u ≡ pass v → pass (walked ns u) ≡ pass (walked ns v)
walked_alike ns u v same = gives_nodes ns u ∙ ap (λ (w : Walk). passed (survey ns w.around w.known) w) same ∙ sym (gives_nodes ns v)

-- a package is left alike
pub left_alike : (u v : Walk) (p : Package) (outer : List Package) → v.packages ≡ p ∷ outer → pass u ≡ pass v → leave u ≡ leave v
left_alike u v p outer is same =
    let in_u : u.packages ≡ p ∷ outer = ap (λ (w : Walk). w.packages) same ∙ is in
    ap (λ (ps : List Package). leave_from ps u) in_u ∙ ap (λ (w : Walk). leave_from (p ∷ outer) w) same ∙ sym (ap (λ (ps : List Package). leave_from ps v) is)

-- the packages around are the same behind nodes
walked_in : (ns : Nodes) (w : Walk) → (walked ns w).packages ≡ w.packages
walked_in ns w = ap (λ (w : Walk). w.packages) (gives_nodes ns w)

-- ---- a term with nothing inside

joined_none : (x : Survey) (w : Walk) → passed (record x { entries = x.entries ++ []; refused = x.refused ++ []; stops = x.stops ++ [] }) w ≡ passed x w
joined_none x w = λ i. passed (record x { entries = append-nil x.entries i; refused = append-nil x.refused i; stops = append-nil x.stops i }) w

declared : (t : Term) (w : Walk) → walks.declare t w ≡ pass (walked_term t (λ w. w) w)
declared t w = sym (gives_nodes (declares t no_nodes no_nodes) w ∙ joined_none (declaring t empty_survey w.around w.known) w)

-- ---- Ifs

-- an If whose test is lost is one with nothing in its first branch
empty_first : (place : ℕ) (w : Walk) → leave (enter_first place w) ≡ lost_if place w
empty_first place w = λ i. record w {
  around = record w.around { way = way i };
  known = record w.known { entries = entries i };
  stops = take-append-drop (length w.stops) w.stops i;
  last_if = Some (package_at of_first place w);
}
  where
    no_stops : drop (length w.stops) w.stops ≡ []
    no_stops = drop_all (length w.stops) w.stops (omega arith)

    no_entries : drop (length w.entries) w.entries ≡ []
    no_entries = drop_all (length w.entries) w.entries (omega arith)

    way : w.around.way ++ map (λ (s : StopAt). past s.place) (drop (length w.stops) w.stops) ≡ w.around.way
    way = ap (λ (ss : List StopAt). w.around.way ++ map (λ (s : StopAt). past s.place) ss) no_stops ∙ append-nil w.around.way

    entries : w.known.entries ++ drop (length w.entries) w.entries ≡ w.known.entries
    entries = ap (λ (es : List Entry). w.known.entries ++ es) no_entries ∙ append-nil w.known.entries

-- directly behind a first branch an Else is that If's, wherever it stands
last_of : (u : Walk) (p : Package) (outer : List Package) → u.packages ≡ p ∷ outer → (leave u).last_if ≡ if_of p.kind p
last_of u p outer is = ap (λ (ps : List Package). (leave_from ps u).last_if) is

other_of : (u : Walk) → IsInFirst u → (q r : ℕ) → enter_other q (leave u) ≡ enter_other r (leave u)
other_of u h q r = by q ∙ sym (by r)
  where
    last : (leave u).last_if ≡ Some h.0
    last = last_of u h.0 h.1 h.2 ∙ ap (λ (k : Kind). if_of k h.0) h.3

    by : (q : ℕ) → enter_other q (leave u) ≡ into_other h.0 (leave u)
    by q = ap (λ (o : Option Package). into_other (unwrap_or o (package_at of_first q (leave u))) (leave u)) last

-- with no If before it, it is as behind an If with nothing in its first branch
other_alone : (place : ℕ) (w : Walk) → w.last_if ≡ None → enter_other place w ≡ enter_other place (leave (enter_first place w))
other_alone place w none =
    ap (λ (o : Option Package). into_other (unwrap_or o (package_at of_first place w)) w) none ∙ sym (ap (enter_other place) (empty_first place w))

-- ---- one node

-- A state behind another, between which these nodes stand; no If stands directly before it.
record IsStep (s s' : Reading) (put : Nodes → Nodes) : Type 0 where
  fresh : s'.walk.last_if ≡ None
  base : s'.base ≡ s.base
  on : (rest : Nodes) → pass (walked (put rest) s.walk) ≡ pass (walked rest s'.walk)

declaring_step : (t : Term) (c : Option ℕ) (s : Reading) → IsStep s (declaring_in t c s) (declares t no_nodes)
declaring_step t c s = record {
  fresh = refl;
  base = refl;
  on = λ rest. walked_alike rest (walked_term t (λ w. w) s.walk) (walks.declare t s.walk) (sym (declared t s.walk));
}

stopping_step : (place : ℕ) (kind : nodes.Stop) (s : Reading) → IsStep s (stopping place kind s) (stop place kind)
stopping_step place kind s = record { fresh = refl; base = refl; on = λ rest. refl }

passing_step : (s s' : Reading) → s'.walk ≡ pass s.walk → s'.base ≡ s.base → IsStep s s' (λ rest. rest)
passing_step s s' walk base = record {
  fresh = ap (λ (w : Walk). w.last_if) walk;
  base = base;
  on = λ rest. walked_alike rest s.walk s'.walk (sym (ap pass walk));
}

two_steps : (s m s' : Reading) (put before : Nodes → Nodes) → IsStep s m put → IsStep m s' before → IsStep s s' (λ rest. put (before rest))
two_steps s m s' put before h n = record { fresh = n.fresh; base = n.base ∙ h.base; on = λ rest. h.on (before rest) ∙ n.on rest }

operator_step : (place : ℕ) (op : Op) (s : Reading) → IsStep s (after_doing (operator_at place op no_nodes) (Some 0) s) (operator_at place op)
operator_step place ops.Return s = stopping_step place nodes.returns s
operator_step place ops.Break s = stopping_step place nodes.breaks s
operator_step place ops.Continue s = stopping_step place nodes.continues s
operator_step place op s = passing_step s (passing s) refl refl

past_step : (place : ℕ) (p : PlainTree) (s : Reading) → IsStep s (past_plain s place p) (plain_at (s.base + place) p)
past_step place (outline.term (declare form before n behind)) s = declaring_step (term_at (s.base + place) n false (names_before before ++ names_in_all behind)) (Some 0) s
past_step place (outline.term (apply op vs)) s = operator_step (s.base + place) op s
past_step place (outline.term t) s = passing_step s (passing s) refl refl
past_step place (outline.external x) s = passing_step s (expecting x s) refl refl
past_step place (outline.alias source n) s =
    let step = declaring_step (term_at (s.base + place) n false (source ∷ [])) (count_at s source) (with_source (s.base + place) source s) in
    record { fresh = step.fresh; base = step.base; on = step.on }
past_step place (outline.table_region n vs) s = declaring_step (term_at (s.base + place) n false (names_in_all vs)) (Some 0) s

plain_step : (place : ℕ) (p : PlainTree) (s : Reading) → IsStep s (after_plain s place p) (plain_at (s.base + place) p)
plain_step place p s =
    let step = past_step place p (noticing (s.base + place) (names_used_in_plain Call p) s) in
    record { fresh = step.fresh; base = step.base; on = step.on }

element_step : (place : ℕ) (f : FixedTree) (e : FieldTree) (s : Reading) → IsStep s (after_field s place f e) (element_at (s.base + place) (operands_of f) e)
element_step place f (unit g bits) s = declaring_step (unit_at (s.base + place) g (operands_of f)) (Some 0) s
element_step place f e s = passing_step s (passing s) refl refl

fields_step : (f : FixedTree) (es : FieldNodes) (base : ℕ) (s : Reading) → s.walk.last_if ≡ None → s.base ≡ base → IsStep s (after_fields survey_rules s f es) (fields_at base (operands_of f) es)
fields_step f no_more_fields base s fresh is = record { fresh = fresh; base = refl; on = λ rest. refl }
fields_step f (fields_lost place why) base s fresh is = record { fresh = fresh; base = refl; on = λ rest. refl }
fields_step f (field_node place offset e es) base s fresh is =
    let m : Reading = after_field s place f e in
    let here : IsStep s m (element_at (s.base + place) (operands_of f) e) = element_step place f e s in
    two_steps s m (after_fields survey_rules m f es) (element_at (base + place) (operands_of f) e) (fields_at base (operands_of f) es)
    (subst (λ b. IsStep s m (element_at (b + place) (operands_of f) e)) is here)
    (fields_step f es base m here.fresh (here.base ∙ is))

-- a package that isn't gone into
not_placed : (o : Result Path Why) → is_ok o ≡ false → (why : Why) × (o ≡ Err why)
not_placed (Ok p) h = absurd (true≢false h)
not_placed (Err why) h = (why, refl)

placed : (o : Result Path Why) → is_ok o ≡ true → (p : Path) × (o ≡ Ok p)
placed (Ok p) h = (p, refl)
placed (Err why) h = absurd (true≢false (sym h))

closed_step : (place : ℕ) (f : FixedTree) (content : List ℕ) (s : Reading) → goes_into survey_rules s f ≡ false
    → IsStep s (after_closed s place f content) (package_at_place (s.base + place) f no_nodes)
closed_step place (outline.scope n) content s h =
    let o : Result Path Why = opened_at s.walk.known s.walk.around.scope n in
    let no : (why : Why) × (o ≡ Err why) = not_placed o h in
    let fresh : (walked_scope (s.base + place) n (λ w. w) s.walk).last_if ≡ None =
    ap (λ (o : Result Path Why). (through o (λ w. w) (enter_scope_as (s.base + place) s.walk o)).last_if) no.1 in
    record { fresh = fresh; base = refl; on = λ rest. refl }
closed_step place (container form n vs) content s h = declaring_step (term_at (s.base + place) n true []) (Some 0) s
closed_step place (method n flags) content s h = declaring_step (term_at (s.base + place) n false []) (Some (flags % 8)) s
closed_step place (if_so v) content s h = absurd (true≢false h)
closed_step place otherwise content s h = absurd (true≢false h)
closed_step place (while_so v) content s h = absurd (true≢false h)
closed_step place (units form ns vs) content s h = passing_step s (passing s) refl refl

-- ---- the place of the code

base_lost : (place : ℕ) (form : PackedForm) (s : Reading) → (after_lost s place (Some form)).base ≡ s.base
base_lost place forms.If s = refl
base_lost place form s = refl

base_closed : (place : ℕ) (f : FixedTree) (content : List ℕ) (s : Reading) → (after_closed s place f content).base ≡ s.base
base_closed place (outline.scope n) content s = refl
base_closed place (container form n vs) content s = refl
base_closed place (method n flags) content s = refl
base_closed place f content s = refl

pub base_enter : (place : ℕ) (f : FixedTree) (s : Reading) → (enter s place f).base ≡ s.base
base_enter place (outline.scope n) s = refl
base_enter place (container form n vs) s = refl
base_enter place (if_so v) s = refl
base_enter place otherwise s = refl
base_enter place (while_so v) s = refl
base_enter place f s = refl

mutual
  pub base_after : (place : ℕ) (n : NodeTree) (s : Reading) → (after survey_rules place s n).base ≡ s.base
  base_after place (plain p) s = (plain_step place p s).base
  base_after place (holds f ns) s = base_kept ns (enter s place f) ∙ base_enter place f s
  base_after place (holds_fields f es) s = (fields_step f es s.base (begin_fields s place f) refl refl).base
  base_after place (closed f content) s = base_closed place f content s
  base_after place (package_lost form why) s = base_lost place form s
  base_after place (data_lost form why) s = refl
  base_after place (name_lost n form why) s = refl

  base_kept : (ns : NodeTrees) (s : Reading) → (after_all survey_rules s ns).base ≡ s.base
  base_kept no_more s = refl
  base_kept (lost place why) s = refl
  base_kept (node place n ns) s = base_kept ns (after survey_rules place s n) ∙ base_after place n s

-- ---- lists

-- The walk through nodes is the walk through what they do. Directly behind the first branch of an If it goes through what stands in
-- the If's Else, where the nodes begin with one, and then through those behind it.
record IsWalked (ns : NodeTrees) : Type 0 where
  alone : (level end : ℕ) (s : Reading) (bytes : List ℕ) → AreNodes survey_rules level end s ns bytes → s.walk.last_if ≡ None
      → pass (after_all survey_rules s ns).walk ≡ pass (walked (listed s.base ns).nodes s.walk)
  behind_if : (level end : ℕ) (s : Reading) (bytes : List ℕ) → AreNodes survey_rules level end s ns bytes → (u : Walk) (place : ℕ) → IsInFirst u → s.walk ≡ leave u
      → pass (after_all survey_rules s ns).walk ≡ pass (walked (listed s.base ns).behind_else (leave (walked (listed s.base ns).inside_else (enter_other place (leave u)))))

-- .. of those that begin with no Else, wherever they stand
abbrev IsWalkedAnywhere : NodeTrees → Type 0
IsWalkedAnywhere ns = (level end : ℕ) (s : Reading) (bytes : List ℕ) → AreNodes survey_rules level end s ns bytes
    → pass (after_all survey_rules s ns).walk ≡ pass (walked (listed s.base ns).nodes s.walk)

else_less : (ns : NodeTrees) → ((base : ℕ) → listed base ns ≡ no_else (listed base ns).nodes) → IsWalkedAnywhere ns → IsWalked ns
else_less ns none here = record {
  alone = λ level end s bytes are fresh. here level end s bytes are;
  behind_if = λ level end s bytes are u place first is.
      here level end s bytes are
      ∙ walked_alike (listed s.base ns).nodes s.walk (leave (enter_other place (leave u))) (ap pass is ∙ sym (empty_else_is_none place u first))
      ∙ sym (ap (λ (l : Listed). pass (walked l.behind_else (leave (walked l.inside_else (enter_other place (leave u)))))) (none s.base));
}

-- behind a step
module _ (ns : NodeTrees) (h : IsWalked ns) (level end : ℕ) (s s' : Reading) (bytes : List ℕ) (are : AreNodes survey_rules level end s' ns bytes) (base : s'.base ≡ s.base) where
  walked_behind : s'.walk.last_if ≡ None → pass (after_all survey_rules s' ns).walk ≡ pass (walked (listed s.base ns).nodes s'.walk)
  walked_behind fresh = h.alone level end s' bytes are fresh ∙ ap (λ b. pass (walked (listed b ns).nodes s'.walk)) base

  walked_step : (put : Nodes → Nodes) → IsStep s s' put → pass (after_all survey_rules s' ns).walk ≡ pass (walked (put (listed s.base ns).nodes) s.walk)
  walked_step put step = walked_behind step.fresh ∙ sym (step.on (listed s.base ns).nodes)

  walked_if_step : (u : Walk) (place : ℕ) → IsInFirst u → s'.walk ≡ leave u
      → pass (after_all survey_rules s' ns).walk ≡ pass (walked (listed s.base ns).behind_else (leave (walked (listed s.base ns).inside_else (enter_other place (leave u)))))
  walked_if_step u place first is =
      h.behind_if level end s' bytes are u place first is
      ∙ ap (λ b. pass (walked (listed b ns).behind_else (leave (walked (listed b ns).inside_else (enter_other place (leave u)))))) base

-- ---- packages

-- out of a package that is gone into, entered in the state s1
module _ (ms : NodeTrees) (h : IsWalked ms) (level end : ℕ) (s s1 : Reading) (bytes : List ℕ) (are : AreNodes survey_rules level end s1 ms bytes) (base : s1.base ≡ s.base)
    (p : Package) (outer : List Package) (around : s1.walk.packages ≡ p ∷ outer) (fresh : s1.walk.last_if ≡ None) where
  in_package : (walked (listed s.base ms).nodes s1.walk).packages ≡ p ∷ outer
  in_package = walked_in (listed s.base ms).nodes s1.walk ∙ around

  left : leave (after_all survey_rules s1 ms).walk ≡ leave (walked (listed s.base ms).nodes s1.walk)
  left = left_alike (after_all survey_rules s1 ms).walk (walked (listed s.base ms).nodes s1.walk) p outer in_package (walked_behind ms h level end s s1 bytes are base fresh)

  left_fresh : if_of p.kind p ≡ None → (leave (after_all survey_rules s1 ms).walk).last_if ≡ None
  left_fresh none = ap (λ (w : Walk). w.last_if) left ∙ last_of (walked (listed s.base ms).nodes s1.walk) p outer in_package ∙ none

  left_step : (put : Nodes → Nodes) → if_of p.kind p ≡ None → ((rest : Nodes) → walked (put rest) s.walk ≡ walked rest (leave (walked (listed s.base ms).nodes s1.walk)))
      → IsStep s (record (after_all survey_rules s1 ms) { walk = leave (after_all survey_rules s1 ms).walk }) put
  left_step put none through = record {
    fresh = left_fresh none;
    base = base_kept ms s1 ∙ base;
    on = λ rest. ap pass (through rest) ∙ sym (ap (λ (w : Walk). pass (walked rest w)) left);
  }

scope_held : (place : ℕ) (n : NameParts) (ms ns : NodeTrees) → IsWalked ms → IsWalked ns → IsWalkedAnywhere (node place (holds (outline.scope n) ms) ns)
scope_held place n ms ns hm hn level end s bytes are =
    let q : ℕ = s.base + place in
    let w : Walk = s.walk in
    let o : Result Path Why = opened_at w.known w.around.scope n in
    let yes : (p : Path) × (o ≡ Ok p) = placed o are.5.3 in
    let p : Package = package_at (of_scope (is_certain_scope w.known yes.0)) q w in
    let s1 : Reading = enter s place (outline.scope n) in
    let around : s1.walk.packages ≡ p ∷ w.packages = ap (λ (o : Result Path Why). (enter_scope_as q w o).packages) yes.1 in
    let fresh : s1.walk.last_if ≡ None = ap (λ (o : Result Path Why). (enter_scope_as q w o).last_if) yes.1 in
    let inside : Nodes = (listed s.base ms).nodes in
    let step : IsStep s (after survey_rules place s (holds (outline.scope n) ms)) (λ rest. opens q n inside rest) =
    left_step ms hm are.2 (end - length are.1) s s1 are.5.1 are.5.4 refl p w.packages around fresh (λ rest. opens q n inside rest) refl
    (λ rest. ap (λ (o : Result Path Why). walked rest (through o (walked inside) (enter_scope q n w))) yes.1) in
    walked_step ns hn level end s (after survey_rules place s (holds (outline.scope n) ms)) are.1 are.6 step.base (λ rest. opens q n inside rest) step

container_held : (place : ℕ) (form : ContainerForm) (n : NameParts) (vs : TermTrees) (ms ns : NodeTrees) → IsWalked ms → IsWalked ns
    → IsWalkedAnywhere (node place (holds (container form n vs) ms) ns)
container_held place form n vs ms ns hm hn level end s bytes are =
    let t : Term = term_at (s.base + place) n true [] in
    let w : Walk = s.walk in
    let o : Result Path Why = declared_at w.known w.around.scope n in
    let yes : (p : Path) × (o ≡ Ok p) = placed o are.5.3 in
    let p : Package = package_at of_term t.place w in
    let s1 : Reading = enter s place (container form n vs) in
    let around : s1.walk.packages ≡ p ∷ w.packages = ap (λ (o : Result Path Why). (enter_term_as t w o).packages) yes.1 in
    let fresh : s1.walk.last_if ≡ None = ap (λ (o : Result Path Why). (enter_term_as t w o).last_if) yes.1 in
    let inside : Nodes = (listed s.base ms).nodes in
    let step : IsStep s (after survey_rules place s (holds (container form n vs) ms)) (λ rest. declares t inside rest) =
    left_step ms hm are.2 (end - length are.1) s s1 are.5.1 are.5.4 refl p w.packages around fresh (λ rest. declares t inside rest) refl
    (λ rest. ap (λ (o : Result Path Why). walked rest (through o (walked inside) (enter_term t w))) yes.1) in
    walked_step ns hn level end s (after survey_rules place s (holds (container form n vs) ms)) are.1 are.6 step.base (λ rest. declares t inside rest) step

while_held : (place : ℕ) (v : TermTree) (ms ns : NodeTrees) → IsWalked ms → IsWalked ns → IsWalkedAnywhere (node place (holds (while_so v) ms) ns)
while_held place v ms ns hm hn level end s bytes are =
    let q : ℕ = s.base + place in
    let w : Walk = s.walk in
    let inside : Nodes = (listed s.base ms).nodes in
    let step : IsStep s (after survey_rules place s (holds (while_so v) ms)) (λ rest. loop q inside rest) =
    left_step ms hm are.2 (end - length are.1) s (enter s place (while_so v)) are.5.1 are.5.4 refl (package_at of_body q w) w.packages refl refl (λ rest. loop q inside rest) refl (λ rest. refl) in
    walked_step ns hn level end s (after survey_rules place s (holds (while_so v) ms)) are.1 are.6 step.base (λ rest. loop q inside rest) step

if_held : (place : ℕ) (v : TermTree) (ms ns : NodeTrees) → IsWalked ms → IsWalked ns → IsWalkedAnywhere (node place (holds (if_so v) ms) ns)
if_held place v ms ns hm hn level end s bytes are =
    let q : ℕ = s.base + place in
    let w : Walk = s.walk in
    let p : Package = package_at of_first q w in
    let s1 : Reading = enter s place (if_so v) in
    let u : Walk = walked (listed s.base ms).nodes (enter_first q w) in
    let is : leave (after_all survey_rules s1 ms).walk ≡ leave u = left ms hm are.2 (end - length are.1) s s1 are.5.1 are.5.4 refl p w.packages refl refl in
    walked_if_step ns hn level end s (after survey_rules place s (holds (if_so v) ms)) are.1 are.6 (base_kept ms s1) u q (p, w.packages, walked_in (listed s.base ms).nodes (enter_first q w), refl) is

if_lost : (place : ℕ) (why : LostFault) (ns : NodeTrees) → IsWalked ns → IsWalkedAnywhere (node place (package_lost forms.If why) ns)
if_lost place why ns hn level end s bytes are =
    let q : ℕ = s.base + place in
    let w : Walk = s.walk in
    walked_if_step ns hn level end s (after survey_rules place s (package_lost forms.If why)) are.1 are.6 refl (enter_first q w) q (package_at of_first q w, w.packages, refl, refl) (sym (empty_first q w))

else_held : (place : ℕ) (ms ns : NodeTrees) → IsWalked ms → IsWalked ns → IsWalked (node place (holds otherwise ms) ns)
else_held place ms ns hm hn = record {
  alone = λ level end s bytes are fresh.
      let q : ℕ = s.base + place in
      let w : Walk = s.walk in
      let inside : Nodes = (listed s.base ms).nodes in
      let p : Package = record (unwrap_or w.last_if (package_at of_first q w)) { kind = of_other } in
      let step : IsStep s (after survey_rules place s (holds otherwise ms)) (λ rest. branch q no_nodes inside rest) =
      left_step ms hm are.2 (end - length are.1) s (enter s place otherwise) are.5.1 are.5.4 refl p w.packages refl refl (λ rest. branch q no_nodes inside rest) refl
      (λ rest. sym (ap (λ (v : Walk). walked rest (leave (walked inside v))) (other_alone q w fresh))) in
      walked_step ns hn level end s (after survey_rules place s (holds otherwise ms)) are.1 are.6 step.base (λ rest. branch q no_nodes inside rest) step;
  behind_if = λ level end s bytes are u r first is.
      let q : ℕ = s.base + place in
      let w : Walk = s.walk in
      let inside : Nodes = (listed s.base ms).nodes in
      let p : Package = record (unwrap_or w.last_if (package_at of_first q w)) { kind = of_other } in
      let s1 : Reading = enter s place otherwise in
      let s' : Reading = after survey_rules place s (holds otherwise ms) in
      let fresh : s'.walk.last_if ≡ None = left_fresh ms hm are.2 (end - length are.1) s s1 are.5.1 are.5.4 refl p w.packages refl refl refl in
      let out : leave (after_all survey_rules s1 ms).walk ≡ leave (walked inside (enter_other r (leave u))) =
      left ms hm are.2 (end - length are.1) s s1 are.5.1 are.5.4 refl p w.packages refl refl
      ∙ ap (λ (v : Walk). leave (walked inside v)) (ap (enter_other q) is ∙ other_of u first q r) in
      walked_behind ns hn level end s s' are.1 are.6 (base_kept ms s1) fresh ∙ ap (λ (v : Walk). pass (walked (listed s.base ns).nodes v)) out;
}

-- ---- all nodes

abbrev IsWalkedInside : NodeTree → Type 0
IsWalkedInside (holds f ms) = IsWalked ms
IsWalkedInside n = Unit {0}

by_step : (place : ℕ) (n : NodeTree) (ns : NodeTrees) (put : ℕ → Nodes → Nodes) → IsWalked ns
    → ((base : ℕ) → listed base (node place n ns) ≡ no_else (put base (listed base ns).nodes))
    → ((level end : ℕ) (s : Reading) (bytes : List ℕ) → IsNode survey_rules level place end s n bytes → IsStep s (after survey_rules place s n) (put s.base))
    → IsWalked (node place n ns)
by_step place n ns put hn is step = else_less (node place n ns) (λ base. is base ∙ sym (ap (λ (l : Listed). no_else l.nodes) (is base)))
    (λ level end s bytes are.
    let here : IsStep s (after survey_rules place s n) (put s.base) = step are.2 (end - length are.1) s are.0 are.5 in
    walked_step ns hn level end s (after survey_rules place s n) are.1 are.6 here.base (put s.base) here
    ∙ sym (ap (λ (l : Listed). pass (walked l.nodes s.walk)) (is s.base)))

node_walked : (place : ℕ) (n : NodeTree) (ns : NodeTrees) → IsWalkedInside n → IsWalked ns → IsWalked (node place n ns)
node_walked place (plain p) ns hm hn = by_step place (plain p) ns (λ base. plain_at (base + place) p) hn (λ base. refl) (λ level end s bytes is. plain_step place p s)
node_walked place (holds (outline.scope n) ms) ns hm hn = else_less (node place (holds (outline.scope n) ms) ns) (λ base. refl) (scope_held place n ms ns hm hn)
node_walked place (holds (container form n vs) ms) ns hm hn = else_less (node place (holds (container form n vs) ms) ns) (λ base. refl) (container_held place form n vs ms ns hm hn)
node_walked place (holds (if_so v) ms) ns hm hn = else_less (node place (holds (if_so v) ms) ns) (λ base. refl) (if_held place v ms ns hm hn)
node_walked place (holds otherwise ms) ns hm hn = else_held place ms ns hm hn
node_walked place (holds (while_so v) ms) ns hm hn = else_less (node place (holds (while_so v) ms) ns) (λ base. refl) (while_held place v ms ns hm hn)
node_walked place (holds f ms) ns hm hn = else_less (node place (holds f ms) ns) (λ base. refl) (λ level end s bytes are. absurd (true≢false (sym are.5.3)))
node_walked place (holds_fields f es) ns hm hn =
    by_step place (holds_fields f es) ns (λ base. fields_at base (operands_of f) es) hn (λ base. refl)
    (λ level end s bytes is.
    two_steps s (begin_fields s place f) (after_fields survey_rules (begin_fields s place f) f es) (λ rest. rest) (fields_at s.base (operands_of f) es)
    (passing_step s (begin_fields s place f) refl refl) (fields_step f es s.base (begin_fields s place f) refl refl))
node_walked place (closed f content) ns hm hn =
    by_step place (closed f content) ns (λ base. package_at_place (base + place) f no_nodes) hn (λ base. refl) (λ level end s bytes is. closed_step place f content s is.2)
node_walked place (package_lost forms.If why) ns hm hn = else_less (node place (package_lost forms.If why) ns) (λ base. refl) (if_lost place why ns hn)
node_walked place (package_lost form why) ns hm hn = by_step place (package_lost form why) ns (λ base rest. rest) hn (λ base. refl) (λ level end s bytes is. passing_step s (passing s) refl refl)
node_walked place (data_lost form why) ns hm hn = by_step place (data_lost form why) ns (λ base rest. rest) hn (λ base. refl) (λ level end s bytes is. passing_step s (passing s) refl refl)
node_walked place (name_lost n form why) ns hm hn =
    by_step place (name_lost n form why) ns (λ base. declares (term_at (base + place) n false []) no_nodes) hn (λ base. refl)
    (λ level end s bytes is. declaring_step (term_at (s.base + place) n false []) (Some 0) s)

none_walked : (ns : NodeTrees) → ((base : ℕ) → listed base ns ≡ no_else no_nodes) → ((s : Reading) → after_all survey_rules s ns ≡ s) → IsWalked ns
none_walked ns none stays = else_less ns (λ base. none base ∙ sym (ap (λ (l : Listed). no_else l.nodes) (none base)))
    (λ level end s bytes are. ap (λ (s : Reading). pass s.walk) (stays s) ∙ sym (ap (λ (l : Listed). pass (walked l.nodes s.walk)) (none s.base)))

mutual
  inside_walked : (n : NodeTree) → IsWalkedInside n
  inside_walked (holds f ms) = all_walked ms
  inside_walked n = tt

  all_walked : (ns : NodeTrees) → IsWalked ns
  all_walked no_more = none_walked no_more (λ base. refl) (λ s. refl)
  all_walked (lost place why) = none_walked (lost place why) (λ base. refl) (λ s. refl)
  all_walked (node place n ns) = node_walked place n ns (inside_walked n) (all_walked ns)

pub nodes_walked : (level end : ℕ) (s : Reading) (ns : NodeTrees) (bytes : List ℕ) → AreNodes survey_rules level end s ns bytes → s.walk.last_if ≡ None
    → pass (after_all survey_rules s ns).walk ≡ pass (walked (nodes_of s.base ns) s.walk)
nodes_walked level end s ns bytes are fresh = (all_walked ns).alone level end s bytes are fresh
