-- Nothing is lost in the nodes of strict items, and nothing noticed.
use Rattle.std.proofs.Common.{◌≡◌, ◌∙◌, ℕ, suc, Bool, false, List, [], ◌∷◌, ◌++◌, length, drop, inl, inr, ap, sym, subst, refl}
use Rattle.std.specs.List.{AllZip, AllByRecursion, flat_map}
use Rattle.acpi_name.specs.Names.{NameParts}
use Rattle.acpi_tree.specs.Tree.{DataTree, int, str, buffer, pkg, var_pkg, ElemTrees, no_elems, elem, of_data, of_name, ExternalParts, FieldTree}
use Rattle.acpi_tree.specs.declared.tree.ScopeKind.TheVariants as kinds
use Rattle.acpi_tree.specs.Tree.{ItemTree, name, scope, method, external, external_block, create, create_field, mutex, event, region, field, index_field, bank_field, ItemTrees, no_items, item}
use Rattle.acpi_tree.specs.Terms as terms
use Rattle.acpi_terms.specs.Spelling.{SpellsItems}
use Rattle.acpi_declare.specs.Predefined.{predefined}
use Rattle.acpi_conditions.specs.Entries.{Path}
use Rattle.acpi_outline.specs.Nodes.{FixedTree, FieldNodes, NodeTree, NodeTrees}
use Rattle.acpi_outline.specs.Rules.{after_all}
use Rattle.acpi_tree.specs.DataTerms.{data_term, elem_terms}
use Rattle.acpi_conservative.specs.StrictNodes.{AreExternals, AreFieldsOf, IsItem, AreItems}
use Rattle.acpi_conservative.proofs.StrictNodes.{strict_kept}
use Rattle.acpi_ranges.specs.Ranges.{Part, of_node, Range, Entered, element_ranges, first_place, inner_ranges, is_if, ranges_of}
use Rattle.acpi_findings.specs.Problems.{why_lost}
use Rattle.acpi_findings.specs.Marks.{PlacedMark, behind, behind_name, in_package, marks_in, marks_in_all}
use Rattle.acpi_findings.specs.Notes.{mark_reasons, part_reasons}
use Rattle.acpi_survey.specs.Reading.{Reading, survey_rules}
use Rattle.acpi_survey.specs.Predefined.{first_reading}
use Rattle.acpi_pieces.specs.Tables.{code_read}
use Rattle.acpi_survey.specs.Survey.{at_table, behind_table, AreRead}
use Rattle.acpi_conservative.specs.Strict.{AreTablesOf}
use Rattle.acpi_conservative.specs.Laws.{StrictReadIsItems}
use Rattle.acpi_conservative.proofs.First.{items_of}
use Rattle.acpi_conservative.proofs.WholeTables.{strict_table_is_read}

-- nothing of a part is lost, and nothing of it is noticed, wherever it stands and whatever names are unknown
abbrev IsPartKept : Part → Type 0
IsPartKept p = (why_lost p ≡ []) × ((unknown : List NameParts) (code : List ℕ) (place : ℕ) (behind_if : Bool) → part_reasons unknown code place behind_if p ≡ [])

abbrev pub IsKept : Range → Type 0
IsKept r = IsPartKept r.part

abbrev pub AreKept : List Range → Type 0
AreKept rs = AllByRecursion IsKept rs

both_kept : (rs us : List Range) → AreKept rs → AreKept us → AreKept (rs ++ us)
both_kept [] us h k = k
both_kept (r ∷ rs) us h k = (h.0, both_kept rs us h.1 k)

-- ---- constants have no calls and no loads

mutual
  data_marks : (end : ℕ) (d : DataTree) (bytes : List ℕ) → marks_in end (data_term d) bytes ≡ []
  data_marks end (int i) bytes = refl
  data_marks end (str text) bytes = refl
  data_marks end (buffer size content) bytes = refl
  data_marks end (pkg count es) bytes = elems_marks end es (drop 1 (in_package bytes))
  data_marks end (var_pkg count es) bytes = elems_marks end es (behind (terms.int count) (in_package bytes))

  elems_marks : (end : ℕ) (es : ElemTrees) (bytes : List ℕ) → marks_in_all end (elem_terms es) bytes ≡ []
  elems_marks end no_elems bytes = refl
  elems_marks end (elem (of_data d) es) bytes =
      let rest : List ℕ = behind (data_term d) bytes in
      ap (λ (ms : List PlacedMark). ms ++ marks_in_all end (elem_terms es) rest) (data_marks end d bytes) ∙ elems_marks end es rest
  elems_marks end (elem (of_name n) es) bytes = elems_marks end es (behind_name bytes)

-- ---- in items

externals_kept : (xs : List ExternalParts) (ns : NodeTrees) → AreExternals xs ns → (entered : Entered) (depth : ℕ) (s : Path) (end : ℕ) (b : Bool) → AreKept (ranges_of entered depth s end b ns)
externals_kept [] ns h entered depth s end b = subst (λ (ns : NodeTrees). AreKept (ranges_of entered depth s end b ns)) (sym h) tt
externals_kept (x ∷ xs) ms (place, ns, e, h) entered depth s end b =
    subst (λ (ms : NodeTrees). AreKept (ranges_of entered depth s end b ms)) (sym e) ((refl, λ unknown code q b. refl), externals_kept xs ns h entered depth s end false)

fields_kept : (es : List FieldTree) (us : FieldNodes) → AreFieldsOf es us → (depth : ℕ) (s : Path) (end : ℕ) (f : FixedTree) → AreKept (element_ranges depth s end f us)
fields_kept [] us h depth s end f = subst (λ (us : FieldNodes). AreKept (element_ranges depth s end f us)) (sym h) tt
fields_kept (e ∷ es) us (place, offset, rest, is, h) depth s end f = subst (λ (us : FieldNodes). AreKept (element_ranges depth s end f us)) (sym is) ((refl, λ unknown code q b. refl), fields_kept es rest h depth s end f)

-- neither the node nor anything in it
abbrev IsNodeKept : Entered → (depth place : ℕ) → Path → ℕ → NodeTree → Type 0
IsNodeKept entered depth place s end m = IsPartKept (of_node m) × AreKept (inner_ranges entered depth place s end m)

mutual
  item_kept : (i : ItemTree) (m : NodeTree) → IsItem i m → (entered : Entered) (depth place : ℕ) (s : Path) (end : ℕ) → IsNodeKept entered depth place s end m
  item_kept (name n d) m h entered depth place s end = subst (IsNodeKept entered depth place s end) (sym h) ((refl, λ unknown code q b. ap (λ (ms : List PlacedMark). flat_map (mark_reasons unknown) (ms ++ [])) (data_marks (length code) d (behind_name (drop 1 (drop q code))))), tt)
  item_kept (scope kinds.Scope n is) m (inl (ms, e, h)) entered depth place s end = subst (IsNodeKept entered depth place s end) (sym e) ((refl, λ unknown code q b. refl), items_kept is ms h entered depth _ end false)
  item_kept (scope kinds.Scope n is) m (inr (b, e, h)) entered depth place s end = subst (IsNodeKept entered depth place s end) (sym e) ((refl, λ unknown code q b. refl), tt)
  item_kept (scope kinds.Device n is) m (inl (ms, e, h)) entered depth place s end = subst (IsNodeKept entered depth place s end) (sym e) ((refl, λ unknown code q b. refl), items_kept is ms h entered depth _ end false)
  item_kept (scope kinds.Device n is) m (inr (b, e, h)) entered depth place s end = subst (IsNodeKept entered depth place s end) (sym e) ((refl, λ unknown code q b. refl), tt)
  item_kept (scope (kinds.Processor id block len) n is) m (inl (ms, e, h)) entered depth place s end = subst (IsNodeKept entered depth place s end) (sym e) ((refl, λ unknown code q b. refl), items_kept is ms h entered depth _ end false)
  item_kept (scope (kinds.Processor id block len) n is) m (inr (b, e, h)) entered depth place s end = subst (IsNodeKept entered depth place s end) (sym e) ((refl, λ unknown code q b. refl), tt)
  item_kept (scope (kinds.Power deepest order) n is) m (inl (ms, e, h)) entered depth place s end = subst (IsNodeKept entered depth place s end) (sym e) ((refl, λ unknown code q b. refl), items_kept is ms h entered depth _ end false)
  item_kept (scope (kinds.Power deepest order) n is) m (inr (b, e, h)) entered depth place s end = subst (IsNodeKept entered depth place s end) (sym e) ((refl, λ unknown code q b. refl), tt)
  item_kept (scope kinds.Thermal n is) m (inl (ms, e, h)) entered depth place s end = subst (IsNodeKept entered depth place s end) (sym e) ((refl, λ unknown code q b. refl), items_kept is ms h entered depth _ end false)
  item_kept (scope kinds.Thermal n is) m (inr (b, e, h)) entered depth place s end = subst (IsNodeKept entered depth place s end) (sym e) ((refl, λ unknown code q b. refl), tt)
  item_kept (method n flags code) m h entered depth place s end = subst (IsNodeKept entered depth place s end) (sym h) ((refl, λ unknown code q b. refl), tt)
  item_kept (external x) m h entered depth place s end = subst (IsNodeKept entered depth place s end) (sym h) ((refl, λ unknown code q b. refl), tt)
  item_kept (external_block xs) m (inl (ms, e, h)) entered depth place s end = subst (IsNodeKept entered depth place s end) (sym e) ((refl, λ unknown code q b. refl), externals_kept xs ms h entered depth _ end false)
  item_kept (external_block xs) m (inr (b, e, h)) entered depth place s end = subst (IsNodeKept entered depth place s end) (sym e) ((refl, λ unknown code q b. refl), tt)
  item_kept (mutex n flags) m h entered depth place s end = subst (IsNodeKept entered depth place s end) (sym h) ((refl, λ unknown code q b. refl), tt)
  item_kept (event n) m h entered depth place s end = subst (IsNodeKept entered depth place s end) (sym h) ((refl, λ unknown code q b. refl), tt)
  item_kept (region n space offset len) m h entered depth place s end = subst (IsNodeKept entered depth place s end) (sym h) ((refl, λ unknown code q b. refl), tt)
  item_kept (field n flags es) m (us, e, h) entered depth place s end = subst (IsNodeKept entered depth place s end) (sym e) ((refl, λ unknown code q b. refl), fields_kept es us h depth s end _)
  item_kept (index_field i k flags es) m (us, e, h) entered depth place s end = subst (IsNodeKept entered depth place s end) (sym e) ((refl, λ unknown code q b. refl), fields_kept es us h depth s end _)
  item_kept (bank_field n bank value flags es) m (us, e, h) entered depth place s end = subst (IsNodeKept entered depth place s end) (sym e) ((refl, λ unknown code q b. refl), fields_kept es us h depth s end _)
  item_kept (create w source index n) m h entered depth place s end = subst (IsNodeKept entered depth place s end) (sym h) ((refl, λ unknown code q b. refl), tt)
  item_kept (create_field source index bits n) m h entered depth place s end = subst (IsNodeKept entered depth place s end) (sym h) ((refl, λ unknown code q b. refl), tt)

  pub items_kept : (is : ItemTrees) (ms : NodeTrees) → AreItems is ms → (entered : Entered) (depth : ℕ) (s : Path) (end : ℕ) (b : Bool) → AreKept (ranges_of entered depth s end b ms)
  items_kept no_items ms h entered depth s end b = subst (λ (ms : NodeTrees). AreKept (ranges_of entered depth s end b ms)) (sym h) tt
  items_kept (item i is) ms (place, n, ns, e, hi, hs) entered depth s end b =
      let to : ℕ = first_place end ns in
      let k : IsNodeKept entered (suc depth) place s to n = item_kept i n hi entered (suc depth) place s to in
      subst (λ (ms : NodeTrees). AreKept (ranges_of entered depth s end b ms)) (sym e)
      (k.0, both_kept (inner_ranges entered (suc depth) place s to n) (ranges_of entered depth s end (is_if n) ns) k.1 (items_kept is ns hs entered depth s end (is_if n)))

-- ---- in tables

pub nodes_are_items : (depth number : ℕ) (s last : Reading) (bs : List (List ℕ)) (iss : List ItemTrees) (nss : List NodeTrees) → AreTablesOf depth number bs iss → AreRead depth number s bs nss last
    → AllZip AreItems iss nss
nodes_are_items depth number s last [] [] [] t r = tt
nodes_are_items depth number s last [] [] (ns ∷ nss) t r = absurd r
nodes_are_items depth number s last [] (is ∷ iss) nss t r = absurd t
nodes_are_items depth number s last (b ∷ bs) [] nss t r = absurd t
nodes_are_items depth number s last (b ∷ bs) (is ∷ iss) [] t r = absurd r
nodes_are_items depth number s last (b ∷ bs) (is ∷ iss) (ns ∷ nss) t r = (
  strict_kept survey_rules (at_table number s) depth (code_read r.0) is ns
      (subst (SpellsItems is) (sym (ap code_read (strict_table_is_read depth number b is t.0 r.0 r.1))) t.0.spelled) t.0.height r.2,
  nodes_are_items depth (suc number) (behind_table (after_all survey_rules (at_table number s) ns)) last bs iss nss t.1 r.3,
)

pub strict_read_is_items : StrictReadIsItems
strict_read_is_items depth bs ts l nss last r =
    let items = items_of depth 0 predefined bs ts l in
    (items.0, items.1, nodes_are_items depth 0 first_reading last bs items.0 nss items.1 r)
