-- A part that declares a term declares an object.
use Rattle.std.proofs.Common.{◌≡◌, ◌==◌, ◌-◌, ℕ, zero, suc, Bool, true, false, cond, List, [], ◌∷◌, length, slice_get, Option, Some, None, refl, sym, subst, ◌∙◌}
use Rattle.std.specs.Option.{option_or, option_and_then}
use Rattle.acpi_space.proofs.Elements.{one_some}
use Rattle.acpi_tree.specs.declared.op.Op.{Op}
use Rattle.acpi_tree.specs.declared.op.Op.TheVariants as ops
use Rattle.acpi_tree.specs.declared.place.NamedForm.{NamedForm}
use Rattle.acpi_tree.specs.declared.place.NamedForm.TheVariants as nameds
use Rattle.acpi_tree.specs.declared.place.UnitsForm.{UnitsForm}
use Rattle.acpi_tree.specs.declared.place.UnitsForm.TheVariants as fields
use Rattle.acpi_tree.specs.Places.{is_raw}
use Rattle.acpi_tree.specs.Terms.{TermTree, TermTrees, raw, apply, declare, no_terms, more}
use Rattle.acpi_tree.specs.Tree.{FieldTree, unit}
use Rattle.acpi_tree.specs.Operators.{operands_of_units}
use Rattle.acpi_values.specs.Grammars.{Grammar}
use Rattle.acpi_values.specs.Spelling.{AreOperands}
use Rattle.acpi_outline.specs.declared.form.ContainerForm.{ContainerForm}
use Rattle.acpi_outline.specs.declared.form.ContainerForm.TheVariants as containers
use Rattle.acpi_outline.specs.declared.form.PackedForm.{PackedForm}
use Rattle.acpi_outline.specs.declared.form.PackedForm.TheVariants as forms
use Rattle.acpi_outline.specs.declared.fault.LostFault.{LostFault}
use Rattle.acpi_outline.specs.Nodes as outline
use Rattle.acpi_outline.specs.Nodes.{FixedTree, container, method, if_so, otherwise, while_so, units, has_fields, FieldNodes, no_more_fields, fields_lost, field_node}
use Rattle.acpi_outline.specs.Nodes.{NodeTree, plain, holds, holds_fields, closed, package_lost, data_lost, name_lost, NodeTrees, no_more, lost, node}
use Rattle.acpi_outline.specs.Rules.{after}
use Rattle.acpi_outline.specs.Outline.{operands_first, operands_after, container_operands, IsFixed, IsNode, AreNodes}
use Rattle.acpi_outline.specs.View.{nodes_view}
use Rattle.acpi_pieces.specs.Tables.{code_read}
use Rattle.acpi_conditions.specs.Nodes.{Place, Term, no_nodes, declares}
use Rattle.acpi_survey.specs.Nodes.{operator_at, package_at}
use Rattle.acpi_survey.specs.Reading.{Reading, survey_rules}
use Rattle.acpi_survey.specs.Predefined.{first_reading}
use Rattle.acpi_survey.specs.Survey.{at_table, behind_table}
use Rattle.acpi_survey.specs.Surveys.{AreTables, behind_nodes}
use Rattle.acpi_survey.specs.declared.machine_survey.SurveyedTable.{SurveyedTable}
use Rattle.acpi_ranges.specs.Sites.{table_at, byte_at}
use Rattle.acpi_ranges.specs.Ranges.{first_place, first_field_place}
use Rattle.acpi_ranges.specs.Lookup.{Found, node_found, element_found, part_at}
use Rattle.acpi_ranges.specs.Laws.{node_does, part_does}
use Rattle.acpi_ranges.specs.steps.Search.{search_fields, search_node, search_nodes}
use Rattle.acpi_ranges.proofs.Searching.{part_is_searched}
use Rattle.acpi_ranges.proofs.NodesInTables.{entries_have_parts}
use Rattle.acpi_kinds.specs.Objects.{ObjectParts}
use Rattle.acpi_objects.specs.Declaring.{mutex_of, region_of, named_object, processor_of, power_of, container_object, fixed_object, unit_object, object_in}
use Rattle.acpi_objects.specs.Laws.{EntriesHaveObjects}

abbrev IsThere : Option ObjectParts → Type 0
IsThere o = (x : ObjectParts) × (o ≡ Some x)

-- ---- operands

-- an operand of so many bytes is a number
raw_is : (k : ℕ) (t : TermTree) → is_raw k t ≡ true → (size : ℕ) × (n : ℕ) × (t ≡ raw size n)
raw_is k (raw size n) e = (size, n, refl)
raw_is k _ e = cc

module _ (g : Grammar) where
  named_there : (form : NamedForm) (before behind : TermTrees) (a c : List ℕ) → AreOperands g (operands_first form) before a → AreOperands g (operands_after form) behind c → IsThere (named_object form before behind)
  named_there nameds.Name before (more v vs) a c h n = (_, refl)
  named_there nameds.Name before no_terms a c h n = absurd n
  named_there (nameds.Create width) (more s (more i vs)) behind a c h n = (_, refl)
  named_there (nameds.Create width) (more s no_terms) behind a c h n = absurd h.4
  named_there (nameds.Create width) no_terms behind a c h n = absurd h
  named_there nameds.CreateField (more s (more i (more b vs))) behind a c h n = (_, refl)
  named_there nameds.CreateField (more s (more i no_terms)) behind a c h n = absurd h.4.4
  named_there nameds.CreateField (more s no_terms) behind a c h n = absurd h.4
  named_there nameds.CreateField no_terms behind a c h n = absurd h
  named_there nameds.Mutex before (more flags vs) a c h n =
      let r = raw_is 1 flags n.2 in
      subst (λ (t : TermTree). IsThere (mutex_of t)) (sym r.2) (_, refl)
  named_there nameds.Mutex before no_terms a c h n = absurd n
  named_there nameds.Event before behind a c h n = (_, refl)
  named_there nameds.Region before (more space (more o (more l vs))) a c h n =
      let r = raw_is 1 space n.2 in
      subst (λ (t : TermTree). IsThere (region_of t o l)) (sym r.2) (_, refl)
  named_there nameds.Region before (more space (more o no_terms)) a c h n = absurd n.4.4
  named_there nameds.Region before (more space no_terms) a c h n = absurd n.4
  named_there nameds.Region before no_terms a c h n = absurd n

  container_there : (form : ContainerForm) (vs : TermTrees) (b : List ℕ) → AreOperands g (container_operands form) vs b → IsThere (container_object form vs)
  container_there containers.Device vs b h = (_, refl)
  container_there containers.Thermal vs b h = (_, refl)
  container_there containers.Processor (more i (more k (more l vs))) b h =
      let x = raw_is 1 i h.2 in
      let y = raw_is 4 k h.4.2 in
      let z = raw_is 1 l h.4.4.2 in
      subst (λ (t : TermTree). IsThere (processor_of (more t (more k (more l vs))))) (sym x.2)
      (subst (λ (t : TermTree). IsThere (processor_of (more (raw x.0 x.1) (more t (more l vs))))) (sym y.2)
      (subst (λ (t : TermTree). IsThere (processor_of (more (raw x.0 x.1) (more (raw y.0 y.1) (more t vs))))) (sym z.2) (_, refl)))
  container_there containers.Processor (more i (more k no_terms)) b h = absurd h.4.4
  container_there containers.Processor (more i no_terms) b h = absurd h.4
  container_there containers.Processor no_terms b h = absurd h
  container_there containers.Power (more i (more k vs)) b h =
      let x = raw_is 1 i h.2 in
      let y = raw_is 2 k h.4.2 in
      subst (λ (t : TermTree). IsThere (power_of (more t (more k vs)))) (sym x.2)
      (subst (λ (t : TermTree). IsThere (power_of (more (raw x.0 x.1) (more t vs)))) (sym y.2) (_, refl))
  container_there containers.Power (more i no_terms) b h = absurd h.4
  container_there containers.Power no_terms b h = absurd h

  unit_there : (form : UnitsForm) (vs : TermTrees) (b : List ℕ) → AreOperands g (operands_of_units form) vs b → (offset bits : ℕ) → IsThere (unit_object form vs offset bits)
  unit_there fields.Field (more f vs) b h offset bits =
      let r = raw_is 1 f h.2 in
      subst (λ (t : TermTree). IsThere (unit_object fields.Field (more t vs) offset bits)) (sym r.2) (_, refl)
  unit_there fields.Field no_terms b h offset bits = absurd h
  unit_there fields.IndexField (more f vs) b h offset bits =
      let r = raw_is 1 f h.2 in
      subst (λ (t : TermTree). IsThere (unit_object fields.IndexField (more t vs) offset bits)) (sym r.2) (_, refl)
  unit_there fields.IndexField no_terms b h offset bits = absurd h
  unit_there fields.BankField (more v (more f vs)) b h offset bits =
      let r = raw_is 1 f h.4.2 in
      subst (λ (t : TermTree). IsThere (unit_object fields.BankField (more v (more t vs)) offset bits)) (sym r.2) (_, refl)
  unit_there fields.BankField (more v no_terms) b h offset bits = absurd h.4
  unit_there fields.BankField no_terms b h offset bits = absurd h

-- ---- nodes

-- what declares a term declares an object
abbrev IsDeclared : Found → Type 0
IsDeclared x = (place : Place) (t : Term) → part_does place x ≡ declares t no_nodes no_nodes → IsThere (object_in x)

operator_declares : (place : Place) (op : Op) (t : Term) → operator_at place op no_nodes ≡ declares t no_nodes no_nodes → ⊥
operator_declares place ops.Return t e = cc
operator_declares place ops.Break t e = cc
operator_declares place ops.Continue t e = cc
operator_declares place op t e = cc

fixed_declared : (level : ℕ) (known : Reading) (f : FixedTree) (a : List ℕ) (place : Place) (t : Term) → IsFixed survey_rules level known f a → package_at place f no_nodes no_nodes ≡ declares t no_nodes no_nodes
    → IsThere (fixed_object f)
fixed_declared level known (container form n vs) a place t h e = container_there _ form vs h.1 h.3
fixed_declared level known (method n flags) a place t h e = (_, refl)
fixed_declared level known (outline.scope n) a place t h e = cc
fixed_declared level known (if_so v) a place t h e = cc
fixed_declared level known otherwise a place t h e = cc
fixed_declared level known (while_so v) a place t h e = cc
fixed_declared level known (units form ns vs) a place t h e = cc

lost_declares : (form : PackedForm) (why : LostFault) (place : Place) (t : Term) → node_does place (package_lost form why) ≡ declares t no_nodes no_nodes → ⊥
lost_declares forms.If why place t e = cc
lost_declares form why place t e = cc

node_declared : (level place end : ℕ) (known : Reading) (n : NodeTree) (bytes : List ℕ) → IsNode survey_rules level place end known n bytes → (to : ℕ) → IsDeclared (node_found to n)
node_declared level place end known (plain (outline.term (declare form before n behind))) bytes h to q t e = named_there _ form before behind h.spells.0 h.spells.2 h.spells.3 h.spells.5
node_declared level place end known (plain (outline.term (apply op vs))) bytes h to q t e = absurd (operator_declares q op t e)
node_declared level place end known (plain (outline.term u)) bytes h to q t e = cc
node_declared level place end known (plain (outline.external x)) bytes h to q t e = cc
node_declared level place end known (plain (outline.alias source n)) bytes h to q t e = (_, refl)
node_declared level place end known (plain (outline.table_region n (more s (more o (more i vs))))) bytes h to q t e = (_, refl)
node_declared level place end known (plain (outline.table_region n (more s (more o no_terms)))) bytes h to q t e = absurd h.spells.3.4.4
node_declared level place end known (plain (outline.table_region n (more s no_terms))) bytes h to q t e = absurd h.spells.3.4
node_declared level place end known (plain (outline.table_region n no_terms)) bytes h to q t e = absurd h.spells.3
node_declared level place end known (holds f ns) bytes h to q t e = fixed_declared level known f h.0 q t h.2 e
node_declared level place end known (closed f content) bytes h to q t e = fixed_declared level known f h.0 q t h.1 e
node_declared level place end known (holds_fields f es) bytes h to q t e = cc
node_declared level place end known (package_lost form why) bytes h to q t e = absurd (lost_declares form why q t e)
node_declared level place end known (data_lost form why) bytes h to q t e = cc
node_declared level place end known (name_lost n form why) bytes h to q t e = (_, refl)

element_declared : (level : ℕ) (known : Reading) (f : FixedTree) (a : List ℕ) → IsFixed survey_rules level known f a → has_fields f ≡ true → (to offset : ℕ) (e : FieldTree) → IsDeclared (element_found to f offset e)
element_declared level known (units form ns vs) a h is to offset (unit g bits) q t e = unit_there _ form vs h.0.operands h.0.are_operands offset bits
element_declared level known (units form ns vs) a h is to offset x q t e = cc
element_declared level known f a h is to offset x q t e = cc

-- ---- lists

fields_declared : (level : ℕ) (known : Reading) (f : FixedTree) (a : List ℕ) → IsFixed survey_rules level known f a → has_fields f ≡ true → (p stop : ℕ) (es : FieldNodes) (x : Found)
    → search_fields p stop f es ≡ Some x → IsDeclared x
fields_declared level known f a h is p stop no_more_fields x e = let none : ⊥ = cc in absurd none
fields_declared level known f a h is p stop (fields_lost q why) x e = let none : ⊥ = cc in absurd none
fields_declared level known f a h is p stop (field_node q offset u es) x e = by (q == p) e (λ e. fields_declared level known f a h is p stop es x e)
  where
    by : (b : Bool) → cond b (Some (element_found (first_field_place stop es) f offset u)) (search_fields p stop f es) ≡ Some x → (search_fields p stop f es ≡ Some x → IsDeclared x) → IsDeclared x
    by true e later = subst IsDeclared (one_some (element_found (first_field_place stop es) f offset u) x e) (element_declared level known f a h is (first_field_place stop es) offset u)
    by false e later = later e

mutual
  inside_declared : (level place end : ℕ) (known : Reading) (n : NodeTree) (bytes : List ℕ) → IsNode survey_rules level place end known n bytes → (p stop : ℕ) (x : Found) → search_node p stop n ≡ Some x → IsDeclared x
  inside_declared level place end known (holds f ns) bytes h p stop x e = nodes_declared level end (survey_rules.enter known place f) ns h.1 h.4 p stop x e
  inside_declared level place end known (holds_fields f es) bytes h p stop x e = fields_declared level known f h.0 h.2 h.6 p stop es x e
  inside_declared level place end known n bytes h p stop x e = let none : ⊥ = cc in absurd none

  nodes_declared : (level end : ℕ) (known : Reading) (ns : NodeTrees) (bytes : List ℕ) → AreNodes survey_rules level end known ns bytes → (p stop : ℕ) (x : Found) → search_nodes p stop ns ≡ Some x → IsDeclared x
  nodes_declared level end known no_more bytes h p stop x e = let none : ⊥ = cc in absurd none
  nodes_declared level end known (lost q why) bytes h p stop x e = let none : ⊥ = cc in absurd none
  nodes_declared level end known (node q n ns) bytes h p stop x e =
      by (q == p) (search_node p (first_place stop ns) n) refl e (λ y e. inside_declared h.2 q (end - length h.1) known n h.0 h.5 p (first_place stop ns) y e)
      (λ e. nodes_declared level end (after survey_rules q known n) ns h.1 h.6 p stop x e)
    where
      by : (b : Bool) (o : Option Found) → search_node p (first_place stop ns) n ≡ o → cond b (Some (node_found (first_place stop ns) n)) (option_or o (search_nodes p stop ns)) ≡ Some x
          → ((y : Found) → search_node p (first_place stop ns) n ≡ Some y → IsDeclared y) → (search_nodes p stop ns ≡ Some x → IsDeclared x) → IsDeclared x
      by true o at e inner later =
          subst IsDeclared (one_some (node_found (first_place stop ns) n) x e) (node_declared h.2 q (end - length h.1) known n h.0 h.5 (first_place stop ns))
      by false (Some y) at e inner later = subst IsDeclared (one_some y x e) (inner y at)
      by false None at e inner later = later e

-- ---- tables

table_declared : (depth number : ℕ) (s last : Reading) (ts : List SurveyedTable) → AreTables depth number s ts last → (n : ℕ) (p : ℕ) (x : Found)
    → option_and_then (λ (t : SurveyedTable). part_at p (length (code_read t.judged)) (nodes_view t.nodes)) (slice_get ts n) ≡ Some x → IsDeclared x
table_declared depth number s last [] h n p x e = let none : ⊥ = cc in absurd none
table_declared depth number s last (t ∷ ts) h zero p x e =
    nodes_declared depth (length (code_read t.judged)) (at_table number s) (nodes_view t.nodes) (code_read t.judged) h.0.outline p (length (code_read t.judged)) x
    (sym (part_is_searched p (length (code_read t.judged)) (nodes_view t.nodes)) ∙ e)
table_declared depth number s last (t ∷ ts) h (suc n) p x e = table_declared depth (suc number) (behind_table (behind_nodes number s t)) last ts h.1 n p x e

pub entries_have_objects : EntriesHaveObjects
entries_have_objects depth last ts h e m =
    let part = (entries_have_parts depth last ts h e m).part in
    let object = table_declared depth 0 first_reading last ts h (table_at e.term.place) (byte_at e.term.place) part.0 part.1 e.term.place e.term part.2 in
    record { part = part.0; stands = part.1; declares_term = part.2; object = object.0; is_object = object.1 }
