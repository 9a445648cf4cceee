-- The nodes of strict items, as the survey reads them and as a whole: each package is gone into, and an External block is left out.
use Rattle.std.proofs.Common.{◌≡◌, ◌==◌, ◌+◌, ◌-◌, ◌%◌, ℕ, Bool, true, false, true≢false, cond, List, [], ◌∷◌, ◌++◌, length, Some, inl, inr, refl, sym, ap, subst, ◌∙◌}
use Rattle.acpi_name.specs.Names.{NameParts}
use Rattle.acpi_tree.specs.declared.object.FieldForm.{FieldForm}
use Rattle.acpi_tree.specs.declared.place.NamedForm.{NamedForm}
use Rattle.acpi_tree.specs.declared.place.NamedForm.TheVariants as named
use Rattle.acpi_tree.specs.declared.place.UnitsForm.{UnitsForm}
use Rattle.acpi_tree.specs.declared.place.UnitsForm.TheVariants as fields
use Rattle.acpi_tree.specs.declared.tree.Int.TheVariants.{Zero}
use Rattle.acpi_tree.specs.Tree.{DataTree, int, str, buffer, pkg, var_pkg, of_data, of_name, ElemTrees, no_elems, elem, ExternalParts, FieldTree, unit}
use Rattle.acpi_tree.specs.declared.tree.ScopeKind.TheVariants as kinds
use Rattle.acpi_tree.specs.Tree.{ItemTree, name, scope, method, external, external_block, create, create_field, mutex, event, region, field, index_field, bank_field, ItemTrees, no_items, item}
use Rattle.acpi_tree.specs.Offsets.{element_bits}
use Rattle.acpi_tree.specs.Terms as terms
use Rattle.acpi_tree.specs.Terms.{TermTree, TermTrees, declare, no_terms, more}
use Rattle.acpi_declare.specs.Sites.{Effect, Step, kind_object, scope_effect, own_steps, unit_steps, external_step, external_steps}
use Rattle.acpi_declare.specs.Sites as sites
use Rattle.acpi_outline.specs.declared.form.ContainerForm.{ContainerForm}
use Rattle.acpi_outline.specs.declared.form.ContainerForm.TheVariants as containers
use Rattle.acpi_outline.specs.Nodes as outline
use Rattle.acpi_outline.specs.Nodes.{FixedTree, container, if_so, units, FieldNodes, no_more_fields, fields_lost, field_node, NodeTree, plain, holds, holds_fields, closed, NodeTrees, no_more, node}
use Rattle.acpi_outline.specs.Rules.{after, after_all, after_fields}
use Rattle.acpi_outline.specs.Outline.{IsNode, AreNodes}
use Rattle.acpi_tree.specs.DataTerms.{data_term, elem_terms}
use Rattle.acpi_conservative.specs.StrictNodes.{AreExternals, AreFieldsOf, IsItem, AreItems}
use Rattle.acpi_conditions.specs.Nodes.{Nodes, no_nodes, declares, opens, branch}
use Rattle.acpi_conditions.specs.Survey.{survey}
use Rattle.acpi_conditions.specs.Walk as walks
use Rattle.acpi_conditions.specs.Walk.{Walk, pass, enter_first}
use Rattle.acpi_needs.specs.Needs.{names_in, names_in_all, names_in_elements, names_before}
use Rattle.acpi_survey.specs.Nodes as read
use Rattle.acpi_survey.specs.Nodes.{term_at, operands_of, fields_at, Listed, no_else, listed_node, listed, if_before}
use Rattle.acpi_survey.specs.Reading.{Reading, survey_rules, enter, begin_fields, after_field}
use Rattle.acpi_conservative.specs.Strict.{term_of, node_of, steps_nodes, item_nodes, items_nodes, nodes_of}
use Rattle.acpi_conservative.proofs.Places.{without_places}
use Rattle.acpi_conservative.proofs.GoingOn.{GoesOn, two_go_on, stays, branch_stays, term_goes_on, scope_goes_on, closed_scope, container_goes_on, closed_container}

-- ---- constants have no names

mutual
  data_names : (d : DataTree) → names_in (data_term d) ≡ []
  data_names (int i) = refl
  data_names (str text) = refl
  data_names (buffer size content) = refl
  data_names (pkg count es) = elems_names es
  data_names (var_pkg count es) = elems_names es

  elems_names : (es : ElemTrees) → names_in_elements (elem_terms es) ≡ []
  elems_names no_elems = refl
  elems_names (elem (of_name n) es) = elems_names es
  elems_names (elem (of_data (int i)) es) = elems_names es
  elems_names (elem (of_data (str text)) es) = elems_names es
  elems_names (elem (of_data (buffer size content)) es) = elems_names es
  elems_names (elem (of_data (pkg count ds)) es) = ap (λ (ns : List NameParts). ns ++ names_in_elements (elem_terms es)) (elems_names ds) ∙ elems_names es
  elems_names (elem (of_data (var_pkg count ds)) es) = ap (λ (ns : List NameParts). ns ++ names_in_elements (elem_terms es)) (elems_names ds) ∙ elems_names es

-- ---- items as nodes, without places

node_without : (d : Effect) (n : NameParts) (inside rest : Nodes) → without_places (node_of d n inside rest) ≡ node_of d n (without_places inside) (without_places rest)
node_without (sites.declares o links code) n inside rest = refl
node_without sites.opens n inside rest = refl
node_without (sites.expects count) n inside rest = refl

steps_without : (xs : List Step) (rest : Nodes) → without_places (steps_nodes xs rest) ≡ steps_nodes xs (without_places rest)
steps_without [] rest = refl
steps_without (x ∷ xs) rest = node_without x.effect x.name no_nodes (steps_nodes xs rest) ∙ ap (node_of x.effect x.name no_nodes) (steps_without xs rest)

mutual
  item_without : (i : ItemTree) (rest : Nodes) → without_places (item_nodes i rest) ≡ item_nodes i (without_places rest)
  item_without (scope kind n is) rest =
      let d = scope_effect (kind_object kind) in
      node_without d n (nodes_of is) rest ∙ ap (λ m. node_of d n m (without_places rest)) (items_without is no_nodes)
  item_without i rest = steps_without (own_steps i) rest

  items_without : (is : ItemTrees) (rest : Nodes) → without_places (items_nodes is rest) ≡ items_nodes is (without_places rest)
  items_without no_items rest = refl
  items_without (item i is) rest = item_without i (items_nodes is rest) ∙ ap (item_nodes i) (items_without is rest)

-- Externals declare nothing
external_nothing : (b : Bool) (x : ExternalParts) (rest : Nodes) → steps_nodes (cond b (sites.step x.name (sites.expects x.args) ∷ []) []) rest ≡ rest
external_nothing true x rest = refl
external_nothing false x rest = refl

steps_both : (xs ys : List Step) (rest : Nodes) → steps_nodes (xs ++ ys) rest ≡ steps_nodes xs (steps_nodes ys rest)
steps_both [] ys rest = refl
steps_both (x ∷ xs) ys rest = ap (node_of x.effect x.name no_nodes) (steps_both xs ys rest)

externals_nothing : (xs : List ExternalParts) (rest : Nodes) → steps_nodes (external_steps xs) rest ≡ rest
externals_nothing [] rest = refl
externals_nothing (x ∷ xs) rest =
    steps_both (external_step x) (external_steps xs) rest ∙ external_nothing (x.kind == 8) x (steps_nodes (external_steps xs) rest) ∙ externals_nothing xs rest

-- ---- one node and the nodes behind it

-- The node of an item at a place, before some others, as it is read and as a whole.
record ItemNode (base place : ℕ) (i : ItemTree) (n : NodeTree) : Type 0 where
  put : Nodes → Nodes
  whole : Nodes → Nodes
  of_item : (rest : Nodes) → without_places (whole rest) ≡ item_nodes i (without_places rest)
  listed_as : (l : Listed) → l ≡ no_else l.nodes → listed_node base place n l ≡ no_else (put l.nodes)
  same_base : (s : Reading) → (after survey_rules place s n).base ≡ s.base
  goes_on : (level end : ℕ) (s : Reading) (bytes : List ℕ) → s.base ≡ base → IsNode survey_rules level place end s n bytes → GoesOn s (after survey_rules place s n) put whole

-- The nodes of items, as they are read and as a whole: where nothing in the whole is refused, both give the same.
pub record ItemNodes (base : ℕ) (is : ItemTrees) (ns : NodeTrees) : Type 0 where
  pub whole : Nodes
  pub of_items : without_places whole ≡ nodes_of is
  pub has_no_else : listed base ns ≡ no_else (listed base ns).nodes
  pub same_base : (s : Reading) → (after_all survey_rules s ns).base ≡ s.base
  pub same : (level end : ℕ) (s : Reading) (bytes : List ℕ) → s.base ≡ base → AreNodes survey_rules level end s ns bytes
      → (survey whole s.walk.around s.walk.known).refused ≡ [] → survey (read.nodes_of base ns) s.walk.around s.walk.known ≡ survey whole s.walk.around s.walk.known

nothing_more : (base : ℕ) → ItemNodes base no_items no_more
nothing_more base = record { whole = no_nodes; of_items = refl; has_no_else = refl; same_base = λ s. refl; same = λ level end s bytes e are none. refl }

one_more : (base place : ℕ) (i : ItemTree) (is : ItemTrees) (n : NodeTree) (ns : NodeTrees) → ItemNode base place i n → ItemNodes base is ns → ItemNodes base (item i is) (node place n ns)
one_more base place i is n ns h t = record {
  whole = h.whole t.whole;
  of_items = h.of_item t.whole ∙ ap (item_nodes i) t.of_items;
  has_no_else = list ∙ sym (ap (λ (l : Listed). no_else l.nodes) list);
  same_base = λ s. t.same_base (after survey_rules place s n) ∙ h.same_base s;
  same = λ level end s bytes e are none.
      let s' : Reading = after survey_rules place s n in
      let go = h.goes_on are.2 (end - length are.1) s are.0 e are.5 (read.nodes_of base ns) t.whole none in
      ap (λ (l : Listed). survey l.nodes s.walk.around s.walk.known) list ∙ go.1 (t.same level end s' are.1 (h.same_base s ∙ e) are.6 go.0);
}
  where
    list : listed base (node place n ns) ≡ no_else (h.put (read.nodes_of base ns))
    list = h.listed_as (listed base ns) t.has_no_else

-- ---- terms without nodes inside

term_without : (n : NameParts) (names : List NameParts) (rest : Nodes) → names ≡ []
    → declares (term_at 0 n false names) no_nodes rest ≡ declares (term_of n false) no_nodes rest
term_without n names rest none = ap (λ (ns : List NameParts). declares (term_at 0 n false ns) no_nodes rest) none

declaration_node : (base place : ℕ) (i : ItemTree) (form : NamedForm) (before : TermTrees) (n : NameParts) (behind : TermTrees) → names_before before ++ names_in_all behind ≡ []
    → ((rest : Nodes) → item_nodes i rest ≡ declares (term_of n false) no_nodes rest) → ItemNode base place i (plain (outline.term (declare form before n behind)))
declaration_node base place i form before n behind none is = record {
  put = declares (term_at (base + place) n false (names_before before ++ names_in_all behind)) no_nodes;
  whole = declares (term_at (base + place) n false (names_before before ++ names_in_all behind)) no_nodes;
  of_item = λ rest. term_without n (names_before before ++ names_in_all behind) (without_places rest) none ∙ sym (is (without_places rest));
  listed_as = λ l e. refl;
  same_base = λ s. refl;
  goes_on = λ level end s bytes e is_node.
      subst (λ b. GoesOn s (after survey_rules place s (plain (outline.term (declare form before n behind))))
      (declares (term_at (b + place) n false (names_before before ++ names_in_all behind)) no_nodes) (declares (term_at (b + place) n false (names_before before ++ names_in_all behind)) no_nodes)) e
      (term_goes_on (term_at (s.base + place) n false (names_before before ++ names_in_all behind)) (Some 0) s);
}

method_node : (base place : ℕ) (n : NameParts) (flags : ℕ) (code : List ℕ) → ItemNode base place (method n flags code) (closed (outline.method n flags) code)
method_node base place n flags code = record {
  put = declares (term_at (base + place) n false []) no_nodes;
  whole = declares (term_at (base + place) n false []) no_nodes;
  of_item = λ rest. refl;
  listed_as = λ l e. refl;
  same_base = λ s. refl;
  goes_on = λ level end s bytes e is_node.
      subst (λ b. GoesOn s (after survey_rules place s (closed (outline.method n flags) code)) (declares (term_at (b + place) n false []) no_nodes) (declares (term_at (b + place) n false []) no_nodes)) e
      (term_goes_on (term_at (s.base + place) n false []) (Some (flags % 8)) s);
}

-- ---- Externals

external_node : (base place : ℕ) (x : ExternalParts) → ItemNode base place (external x) (plain (outline.external x))
external_node base place x = record {
  put = λ rest. rest;
  whole = λ rest. rest;
  of_item = λ rest. sym (external_nothing (x.kind == 8) x (without_places rest));
  listed_as = λ l e. refl;
  same_base = λ s. refl;
  goes_on = λ level end s bytes e is_node. stays s (after survey_rules place s (plain (outline.external x))) refl refl;
}

externals_listed : (base : ℕ) (xs : List ExternalParts) (ms : NodeTrees) → AreExternals xs ms → read.nodes_of base ms ≡ no_nodes
externals_listed base [] ms h = ap (read.nodes_of base) h
externals_listed base (x ∷ xs) ms (place, ns, e, h) = ap (read.nodes_of base) e ∙ externals_listed base xs ns h

pub externals_walked : (xs : List ExternalParts) (ms : NodeTrees) → AreExternals xs ms → (s : Reading) → pass s.walk ≡ s.walk
    → ((after_all survey_rules s ms).walk ≡ s.walk) × ((after_all survey_rules s ms).base ≡ s.base)
externals_walked [] ms h s fresh = (ap (λ (m : NodeTrees). (after_all survey_rules s m).walk) h, ap (λ (m : NodeTrees). (after_all survey_rules s m).base) h)
externals_walked (x ∷ xs) ms (place, ns, e, h) s fresh =
    let s' : Reading = after survey_rules place s (plain (outline.external x)) in
    let later = externals_walked xs ns h s' refl in
    (ap (λ (m : NodeTrees). (after_all survey_rules s m).walk) e ∙ later.0 ∙ fresh, ap (λ (m : NodeTrees). (after_all survey_rules s m).base) e ∙ later.1)

-- the If around Externals
block_listed : (place : ℕ) (first : Nodes) (l : Listed) → first ≡ no_nodes → l ≡ no_else l.nodes → if_before place first l ≡ no_else (branch place no_nodes no_nodes l.nodes)
block_listed place first l e f = ap (λ m. if_before place m l) e ∙ ap (if_before place no_nodes) f

block_node : (base place : ℕ) (xs : List ExternalParts) (ms : NodeTrees) → AreExternals xs ms → ItemNode base place (external_block xs) (holds (if_so (terms.int Zero)) ms)
block_node base place xs ms h = record {
  put = branch (base + place) no_nodes no_nodes;
  whole = λ rest. rest;
  of_item = λ rest. sym (externals_nothing xs (without_places rest));
  listed_as = λ l e. block_listed (base + place) (read.nodes_of base ms) l (externals_listed base xs ms h) e;
  same_base = λ s. (externals_walked xs ms h (enter s place (if_so (terms.int Zero))) refl).1;
  goes_on = λ level end s bytes e is_node.
      subst (λ b. GoesOn s (after survey_rules place s (holds (if_so (terms.int Zero)) ms)) (branch (b + place) no_nodes no_nodes) (λ rest. rest)) e
      (branch_stays (s.base + place) s (after survey_rules place s (holds (if_so (terms.int Zero)) ms))
      (ap walks.leave (externals_walked xs ms h (enter s place (if_so (terms.int Zero))) refl).0));
}

closed_block : (base place : ℕ) (xs : List ExternalParts) (content : List ℕ) → ItemNode base place (external_block xs) (closed (if_so (terms.int Zero)) content)
closed_block base place xs content = record {
  put = branch (base + place) no_nodes no_nodes;
  whole = λ rest. rest;
  of_item = λ rest. sym (externals_nothing xs (without_places rest));
  listed_as = λ l e. refl;
  same_base = λ s. refl;
  goes_on = λ level end s bytes e is_node. absurd (true≢false is_node.2);
}

-- ---- packages

scope_node : (base place : ℕ) (n : NameParts) (is : ItemTrees) (ms : NodeTrees) → ItemNodes base is ms → ItemNode base place (scope kinds.Scope n is) (holds (outline.scope n) ms)
scope_node base place n is ms t = record {
  put = opens (base + place) n (read.nodes_of base ms);
  whole = opens (base + place) n t.whole;
  of_item = λ rest. ap (λ m. opens 0 n m (without_places rest)) t.of_items;
  listed_as = λ l e. refl;
  same_base = λ s. t.same_base (enter s place (outline.scope n));
  goes_on = λ level end s bytes e is_node.
      subst (λ b. GoesOn s (after survey_rules place s (holds (outline.scope n) ms)) (opens (b + place) n (read.nodes_of b ms)) (opens (b + place) n t.whole)) e
      (scope_goes_on s place n t.whole ms level end is_node.1 is_node.4
      (λ none. ap (λ b. survey (read.nodes_of b ms) (enter s place (outline.scope n)).walk.around (enter s place (outline.scope n)).walk.known) e
      ∙ t.same level end (enter s place (outline.scope n)) is_node.1 e is_node.4 none));
}

scope_closed : (base place : ℕ) (n : NameParts) (is : ItemTrees) (content : List ℕ) → ItemNode base place (scope kinds.Scope n is) (closed (outline.scope n) content)
scope_closed base place n is content = record {
  put = opens (base + place) n no_nodes;
  whole = opens (base + place) n (nodes_of is);
  of_item = λ rest. ap (λ m. opens 0 n m (without_places rest)) (items_without is no_nodes);
  listed_as = λ l e. refl;
  same_base = λ s. refl;
  goes_on = λ level end s bytes e is_node.
      subst (λ b. GoesOn s (after survey_rules place s (closed (outline.scope n) content)) (opens (b + place) n no_nodes) (opens (b + place) n (nodes_of is))) e
      (closed_scope s place n (nodes_of is) is_node.2 (after survey_rules place s (closed (outline.scope n) content)) (opens (s.base + place) n no_nodes));
}

module _ (base place : ℕ) (i : ItemTree) (form : ContainerForm) (n : NameParts) (vs : TermTrees) (is : ItemTrees)
    (of_container : (rest : Nodes) → item_nodes i rest ≡ declares (term_of n true) (nodes_of is) rest) where
  container_node : (ms : NodeTrees) → ItemNodes base is ms → ItemNode base place i (holds (container form n vs) ms)
  container_node ms t = record {
    put = declares (term_at (base + place) n true []) (read.nodes_of base ms);
    whole = declares (term_at (base + place) n true []) t.whole;
    of_item = λ rest. ap (λ m. declares (term_of n true) m (without_places rest)) t.of_items ∙ sym (of_container (without_places rest));
    listed_as = λ l e. refl;
    same_base = λ s. t.same_base (enter s place (container form n vs));
    goes_on = λ level end s bytes e is_node.
        subst (λ b. GoesOn s (after survey_rules place s (holds (container form n vs) ms)) (declares (term_at (b + place) n true []) (read.nodes_of b ms)) (declares (term_at (b + place) n true []) t.whole)) e
        (container_goes_on s place form n vs t.whole ms level end is_node.1 is_node.4
        (λ none. ap (λ b. survey (read.nodes_of b ms) (enter s place (container form n vs)).walk.around (enter s place (container form n vs)).walk.known) e
        ∙ t.same level end (enter s place (container form n vs)) is_node.1 e is_node.4 none));
  }

  container_closed : (content : List ℕ) → ItemNode base place i (closed (container form n vs) content)
  container_closed content = record {
    put = declares (term_at (base + place) n true []) no_nodes;
    whole = declares (term_at (base + place) n true []) (nodes_of is);
    of_item = λ rest. ap (λ m. declares (term_of n true) m (without_places rest)) (items_without is no_nodes) ∙ sym (of_container (without_places rest));
    listed_as = λ l e. refl;
    same_base = λ s. refl;
    goes_on = λ level end s bytes e is_node.
        subst (λ b. GoesOn s (after survey_rules place s (closed (container form n vs) content)) (declares (term_at (b + place) n true []) no_nodes) (declares (term_at (b + place) n true []) (nodes_of is))) e
        (closed_container s place form n vs (nodes_of is) is_node.2 (after survey_rules place s (closed (container form n vs) content)) (declares (term_at (s.base + place) n true []) no_nodes));
  }

-- ---- field lists

module _ (base : ℕ) (vs : TermTrees) (none : names_in_all vs ≡ []) (form : FieldForm) (flags : ℕ) (links : List NameParts) (rest : Nodes) where
  -- an element, and those behind it
  field_without : (offset : ℕ) (e : FieldTree) (es : List FieldTree) (place first_bit : ℕ) (us : FieldNodes)
      → ((next : ℕ) → without_places (fields_at base vs us rest) ≡ steps_nodes (unit_steps form flags links next es) (without_places rest))
      → without_places (fields_at base vs (field_node place first_bit e us) rest) ≡ steps_nodes (unit_steps form flags links offset (e ∷ es)) (without_places rest)
  field_without offset (unit g bits) es place first_bit us later =
      term_without (read.name_of g) (names_in_all vs) (without_places (fields_at base vs us rest)) none
      ∙ ap (declares (term_of (read.name_of g) false) no_nodes) (later (offset + element_bits (unit g bits)))
  field_without offset e es place first_bit us later = later (offset + element_bits e)

  fields_without : (es : List FieldTree) (us : FieldNodes) → AreFieldsOf es us → (offset : ℕ)
      → without_places (fields_at base vs us rest) ≡ steps_nodes (unit_steps form flags links offset es) (without_places rest)
  fields_without [] us h offset = ap (λ (us : FieldNodes). without_places (fields_at base vs us rest)) h
  fields_without (e ∷ es) us (place, first_bit, more_us, is, h) offset =
      ap (λ (us : FieldNodes). without_places (fields_at base vs us rest)) is ∙ field_without offset e es place first_bit more_us (λ next. fields_without es more_us h next)

field_goes_on : (place : ℕ) (f : FixedTree) (e : FieldTree) (s : Reading) → GoesOn s (after_field s place f e) (read.element_at (s.base + place) (operands_of f) e) (read.element_at (s.base + place) (operands_of f) e)
field_goes_on place f (unit g bits) s = term_goes_on (read.unit_at (s.base + place) g (operands_of f)) (Some 0) s
field_goes_on place f e s = stays s (after_field s place f e) refl refl

field_base : (place : ℕ) (f : FixedTree) (e : FieldTree) (s : Reading) → (after_field s place f e).base ≡ s.base
field_base place f (unit g bits) s = refl
field_base place f e s = refl

fields_base : (f : FixedTree) (us : FieldNodes) (s : Reading) → (after_fields survey_rules s f us).base ≡ s.base
fields_base f no_more_fields s = refl
fields_base f (fields_lost place why) s = refl
fields_base f (field_node place offset e us) s = fields_base f us (after_field s place f e) ∙ field_base place f e s

fields_go_on : (f : FixedTree) (us : FieldNodes) (base : ℕ) (s : Reading) → s.base ≡ base → GoesOn s (after_fields survey_rules s f us) (fields_at base (operands_of f) us) (fields_at base (operands_of f) us)
fields_go_on f no_more_fields base s is = stays s s refl refl
fields_go_on f (fields_lost place why) base s is = stays s s refl refl
fields_go_on f (field_node place offset e us) base s is =
    let m : Reading = after_field s place f e in
    let put : Nodes → Nodes = read.element_at (base + place) (operands_of f) e in
    let rest : Nodes → Nodes = fields_at base (operands_of f) us in
    two_go_on s m (after_fields survey_rules m f us) put rest put rest
    (subst (λ b. GoesOn s m (read.element_at (b + place) (operands_of f) e) (read.element_at (b + place) (operands_of f) e)) is (field_goes_on place f e s))
    (fields_go_on f us base m (field_base place f e s ∙ is))

fields_node : (base place : ℕ) (i : ItemTree) (form : UnitsForm) (ns : List NameParts) (vs : TermTrees) → names_in_all vs ≡ [] → (units_form : FieldForm) (flags : ℕ) (links : List NameParts) (es : List FieldTree) (us : FieldNodes)
    → AreFieldsOf es us → ((rest : Nodes) → item_nodes i rest ≡ steps_nodes (unit_steps units_form flags links 0 es) rest) → ItemNode base place i (holds_fields (units form ns vs) us)
fields_node base place i form ns vs none units_form flags links es us h of_fields = record {
  put = fields_at base vs us;
  whole = fields_at base vs us;
  of_item = λ rest. fields_without base vs none units_form flags links rest es us h 0 ∙ sym (of_fields (without_places rest));
  listed_as = λ l e. refl;
  same_base = λ s. fields_base (units form ns vs) us (begin_fields s place (units form ns vs));
  goes_on = λ level end s bytes e is_node.
      two_go_on s (begin_fields s place (units form ns vs)) (after survey_rules place s (holds_fields (units form ns vs) us)) (λ rest. rest) (fields_at base vs us) (λ rest. rest) (fields_at base vs us)
      (stays s (begin_fields s place (units form ns vs)) refl refl) (fields_go_on (units form ns vs) us base (begin_fields s place (units form ns vs)) e);
}

-- ---- all items

pub data_none : (d : DataTree) → names_before no_terms ++ names_in_all (more (data_term d) no_terms) ≡ []
data_none d = ap (λ (ns : List NameParts). ns ++ []) (data_names d)

mutual
  item_node : (base place : ℕ) (i : ItemTree) (n : NodeTree) → IsItem i n → ItemNode base place i n
  item_node base place (name n d) m h =
      subst (ItemNode base place (name n d)) (sym h) (declaration_node base place (name n d) named.Name no_terms n (more (data_term d) no_terms) (data_none d) (λ rest. refl))
  item_node base place (scope kinds.Scope n is) m (inl (ms, e, h)) = subst (ItemNode base place (scope kinds.Scope n is)) (sym e) (scope_node base place n is ms (table_nodes base is ms h))
  item_node base place (scope kinds.Scope n is) m (inr (b, e, h)) = subst (ItemNode base place (scope kinds.Scope n is)) (sym e) (scope_closed base place n is b)
  item_node base place (scope kinds.Device n is) m (inl (ms, e, h)) =
      subst (ItemNode base place (scope kinds.Device n is)) (sym e) (container_node base place (scope kinds.Device n is) containers.Device n no_terms is (λ rest. refl) ms (table_nodes base is ms h))
  item_node base place (scope kinds.Device n is) m (inr (b, e, h)) = subst (ItemNode base place (scope kinds.Device n is)) (sym e) (container_closed base place (scope kinds.Device n is) containers.Device n no_terms is (λ rest. refl) b)
  item_node base place (scope (kinds.Processor id block len) n is) m (inl (ms, e, h)) =
      subst (ItemNode base place (scope (kinds.Processor id block len) n is)) (sym e) (container_node base place (scope (kinds.Processor id block len) n is) containers.Processor n _ is (λ rest. refl) ms (table_nodes base is ms h))
  item_node base place (scope (kinds.Processor id block len) n is) m (inr (b, e, h)) =
      subst (ItemNode base place (scope (kinds.Processor id block len) n is)) (sym e) (container_closed base place (scope (kinds.Processor id block len) n is) containers.Processor n _ is (λ rest. refl) b)
  item_node base place (scope (kinds.Power deepest order) n is) m (inl (ms, e, h)) =
      subst (ItemNode base place (scope (kinds.Power deepest order) n is)) (sym e) (container_node base place (scope (kinds.Power deepest order) n is) containers.Power n _ is (λ rest. refl) ms (table_nodes base is ms h))
  item_node base place (scope (kinds.Power deepest order) n is) m (inr (b, e, h)) =
      subst (ItemNode base place (scope (kinds.Power deepest order) n is)) (sym e) (container_closed base place (scope (kinds.Power deepest order) n is) containers.Power n _ is (λ rest. refl) b)
  item_node base place (scope kinds.Thermal n is) m (inl (ms, e, h)) =
      subst (ItemNode base place (scope kinds.Thermal n is)) (sym e) (container_node base place (scope kinds.Thermal n is) containers.Thermal n no_terms is (λ rest. refl) ms (table_nodes base is ms h))
  item_node base place (scope kinds.Thermal n is) m (inr (b, e, h)) = subst (ItemNode base place (scope kinds.Thermal n is)) (sym e) (container_closed base place (scope kinds.Thermal n is) containers.Thermal n no_terms is (λ rest. refl) b)
  item_node base place (method n flags code) m h = subst (ItemNode base place (method n flags code)) (sym h) (method_node base place n flags code)
  item_node base place (external x) m h = subst (ItemNode base place (external x)) (sym h) (external_node base place x)
  item_node base place (external_block xs) m (inl (ms, e, h)) = subst (ItemNode base place (external_block xs)) (sym e) (block_node base place xs ms h)
  item_node base place (external_block xs) m (inr (b, e, h)) = subst (ItemNode base place (external_block xs)) (sym e) (closed_block base place xs b)
  item_node base place (mutex n flags) m h = subst (ItemNode base place (mutex n flags)) (sym h) (declaration_node base place (mutex n flags) named.Mutex no_terms n _ refl (λ rest. refl))
  item_node base place (event n) m h = subst (ItemNode base place (event n)) (sym h) (declaration_node base place (event n) named.Event no_terms n no_terms refl (λ rest. refl))
  item_node base place (region n space offset len) m h =
      subst (ItemNode base place (region n space offset len)) (sym h) (declaration_node base place (region n space offset len) named.Region no_terms n _ refl (λ rest. refl))
  item_node base place (field n flags es) m (us, e, h) =
      subst (ItemNode base place (field n flags es)) (sym e) (fields_node base place (field n flags es) fields.Field (n ∷ []) _ refl FieldForm.Field flags (n ∷ []) es us h (λ rest. refl))
  item_node base place (index_field i k flags es) m (us, e, h) =
      subst (ItemNode base place (index_field i k flags es)) (sym e) (fields_node base place (index_field i k flags es) fields.IndexField (i ∷ k ∷ []) _ refl FieldForm.Index flags (i ∷ k ∷ []) es us h (λ rest. refl))
  item_node base place (bank_field n bank value flags es) m (us, e, h) =
      subst (ItemNode base place (bank_field n bank value flags es)) (sym e)
      (fields_node base place (bank_field n bank value flags es) fields.BankField (n ∷ bank ∷ []) _ refl (FieldForm.Bank value) flags (n ∷ bank ∷ []) es us h (λ rest. refl))
  item_node base place (create w source index n) m h =
      subst (ItemNode base place (create w source index n)) (sym h) (declaration_node base place (create w source index n) (named.Create w) (more (terms.ref source) (more (terms.int index) no_terms)) n no_terms refl (λ rest. refl))
  item_node base place (create_field source index bits n) m h =
      subst (ItemNode base place (create_field source index bits n)) (sym h)
      (declaration_node base place (create_field source index bits n) named.CreateField (more (terms.ref source) (more (terms.int index) (more (terms.int bits) no_terms))) n no_terms refl (λ rest. refl))

  pub table_nodes : (base : ℕ) (is : ItemTrees) (ns : NodeTrees) → AreItems is ns → ItemNodes base is ns
  table_nodes base no_items ns h = subst (ItemNodes base no_items) (sym h) (nothing_more base)
  table_nodes base (item i is) ms (place, n, ns, e, hi, hs) =
      subst (ItemNodes base (item i is)) (sym e) (one_more base place i is n ns (item_node base place i n hi) (table_nodes base is ns hs))
