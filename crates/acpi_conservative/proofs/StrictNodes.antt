-- Where a code spells strict items, its outline is these.
use Rattle.std.proofs.Common.{◌≡◌, ℕ, suc, ◌-◌, ◌≤◌, ◌<◌, Bool, true, false, List, [], ◌∷◌, ◌++◌, length, refl, sym, ap, subst, ◌∙◌, append_assoc, arith, inl, inr}
use Rattle.std.proofs.lemmas.List.{append-nil}
use Rattle.acpi_name.specs.Names.{NameParts}
use Rattle.acpi_tree.specs.declared.tree.Int.TheVariants.{Zero}
use Rattle.acpi_tree.specs.declared.place.Place.TheVariants.{Value}
use Rattle.acpi_tree.specs.declared.place.NamedForm.TheVariants as named
use Rattle.acpi_tree.specs.declared.place.UnitsForm.TheVariants as fields
use Rattle.acpi_tree.specs.Tree.{DataTree, int, str, buffer, pkg, var_pkg, ExternalParts, FieldTree}
use Rattle.acpi_tree.specs.Tree.{ItemTree, name, scope, method, external, external_block, create, create_field, mutex, event, region, field, index_field, bank_field, ItemTrees, no_items, item}
use Rattle.acpi_tree.specs.DataTerms.{data_term}
use Rattle.acpi_tree.specs.Terms as terms
use Rattle.acpi_tree.specs.Terms.{no_terms, more}
use Rattle.acpi_tree.specs.declared.tree.ScopeKind.{ScopeKind}
use Rattle.acpi_tree.specs.declared.tree.ScopeKind.TheVariants as kinds
use Rattle.acpi_code.specs.Opcodes.{opcode_bytes}
use Rattle.acpi_code.specs.Spelling.{SpellsByte, SpellsNumber, SpellsEach, Packs}
use Rattle.acpi_code.specs.Fields.{SpellsField}
use Rattle.acpi_code.specs.Forms.{fixed_arguments, kind_opcode, kind_arguments}
use Rattle.acpi_terms.specs.Spelling.{data_grammar, SpellsArguments, SpellsExternal, SpellsItem, SpellsItems, block_height, item_height, items_height}
use Rattle.acpi_terms.proofs.DataSpelling.{data_spelled, spelled_data}
use Rattle.acpi_values.specs.Spelling.{Stands}
use Rattle.acpi_outline.specs.declared.form.ContainerForm.TheVariants as containers
use Rattle.acpi_outline.specs.Nodes as nodes
use Rattle.acpi_outline.specs.Nodes.{FixedTree, if_so, units, FieldNodes, no_more_fields, field_node, form_of, form_bytes, has_fields}
use Rattle.acpi_outline.specs.Nodes.{NodeTree, plain, holds, holds_fields, closed, NodeTrees, no_more, node}
use Rattle.acpi_outline.specs.Rules.{Rules, grammar_at, goes_into, after}
use Rattle.acpi_outline.specs.Outline.{IsPlain, IsFixed, bits_behind, AreFields, IsNode, AreNodes}
use Rattle.acpi_conservative.specs.StrictNodes.{declares, AreExternals, AreFieldsOf, Holds, HoldsFields, kind_fixed, IsItem, AreItems, StrictIsKept}
use Rattle.acpi_outline.proofs.One.{at_most_one}

-- ---- constant data is a value

data_stands : (d : DataTree) → Stands Value (data_term d)
data_stands (int i) = refl
data_stands (str text) = refl
data_stands (buffer size content) = refl
data_stands (pkg count es) = refl
data_stands (var_pkg count es) = refl

-- ---- items are nodes

byte_is : (n : ℕ) (a : List ℕ) → SpellsByte n a → SpellsNumber 1 n a
byte_is n a h = rw h (refl, omega arith)

block_low : (xs : List ExternalParts) → block_height xs ≤ 2
block_low [] = omega arith
block_low (x ∷ xs) = omega arith

block_some : (xs : List ExternalParts) → 0 < block_height xs
block_some [] = omega arith
block_some (x ∷ xs) = omega arith

item_high : (i : ItemTree) → 0 < item_height i
item_high (external_block xs) = block_some xs
item_high _ = omega arith

fields_nodes : (es : List FieldTree) (end offset : ℕ) (b : List ℕ) → SpellsEach SpellsField es b → (us : FieldNodes) × AreFields end offset us b × AreFieldsOf es us
fields_nodes [] end offset b h = (no_more_fields, h, refl)
fields_nodes (e ∷ es) end offset b (a, c, he, hs, whole) =
    let place = end - length b in
    let rest = fields_nodes es end (bits_behind offset e) c hs in
    (field_node place offset e rest.0, (a, c, refl, refl, he, rest.1, whole), (place, offset, rest.0, refl, rest.2))

module _ {S : Type 0} (r : Rules S) where
  externals_nodes : (xs : List ExternalParts) (left : ℕ) (known : S) (end : ℕ) (b : List ℕ) → SpellsEach SpellsExternal xs b → block_height xs ≤ suc left
      → (ns : NodeTrees) × AreNodes r left end known ns b × AreExternals xs ns
  externals_nodes [] left known end b h le = (no_more, h, refl)
  externals_nodes (x ∷ xs) left known end b (a, c, hx, hs, whole) le =
      let place = end - length b in
      let n = plain (nodes.external x) in
      let rest = externals_nodes xs left (after r place known n) end c hs (omega (arith, block_low xs)) in
      let is : IsPlain r (suc (left - 1)) known (nodes.external x) a = record { spells = hx; within = omega arith } in
      let levels : left ≡ suc (left - 1) = omega arith in
      (node place n rest.0, (a, c, left - 1, levels, refl, is, rest.1, whole), (place, rest.0, refl, rest.2))

  -- a package that is gone into or not
  held_node : (f : FixedTree) (Are : NodeTrees → Type 0) (Fills : List ℕ → Type 0) (inside : ℕ) (known : S) (place end : ℕ) (a q b : List ℕ) → Fills b → has_fields f ≡ false
      → IsFixed r inside known f q → Packs (form_bytes (form_of f)) (q ++ b) a → (ns : NodeTrees) × AreNodes r inside end (r.enter known place f) ns b × Are ns
      → (t : Bool) → goes_into r known f ≡ t → (m : NodeTree) × IsNode r inside place end known m a × Holds f Are Fills m
  held_node f Are Fills inside known place end a q b fills has fixed packs inner true goes = (holds f inner.0, (q, b, fixed, goes, inner.1, packs), inl (inner.0, refl, inner.2))
  held_node f Are Fills inside known place end a q b fills has fixed packs inner false goes = (closed f b, (q, fixed, goes, packs, has), inr (b, refl, fills))

  fields_node : (f : FixedTree) (es : List FieldTree) (inside : ℕ) (known : S) (place end : ℕ) (a q b : List ℕ) → SpellsEach SpellsField es b → has_fields f ≡ true
      → goes_into r known f ≡ false → IsFixed r inside known f q → Packs (form_bytes (form_of f)) (q ++ b) a
      → (m : NodeTree) × IsNode r inside place end known m a × HoldsFields f es m
  fields_node f es inside known place end a q b hs has goes fixed packs =
      let us = fields_nodes es end 0 b hs in
      (holds_fields f us.0, (q, b, fixed, goes, us.1, packs, has), (us.0, refl, us.2))

  -- what stands before the items of what opens a scope
  record KindFront (kind : ScopeKind) (n : NameParts) (inside : ℕ) (known : S) (q : List ℕ) : Type 0 where
    is_fixed : IsFixed r inside known (kind_fixed kind n) q
    bytes : form_bytes (form_of (kind_fixed kind n)) ≡ opcode_bytes (kind_opcode kind)
    no_fields : has_fields (kind_fixed kind n) ≡ false

  kind_front : (kind : ScopeKind) (n : NameParts) (inside : ℕ) (known : S) (q : List ℕ) → SpellsArguments (fixed_arguments (kind_opcode kind)) (kind_arguments kind n) q
      → KindFront kind n inside known q
  kind_front kinds.Scope n inside known q (x, y, hn, none, split) = record { is_fixed = rw (split ∙ ap (λ (l : List ℕ). x ++ l) none ∙ append-nil x) hn; bytes = refl; no_fields = refl }
  kind_front kinds.Device n inside known q h = record { is_fixed = h; bytes = refl; no_fields = refl }
  kind_front (kinds.Processor id block len) n inside known q (x, y, hn, (i, y2, hi, (c, y3, hc, (l, y4, hl, none, e4), e3), e2), e1) =
      record { is_fixed = (x, y, hn, (i, y2, refl, byte_is id i hi, (c, y3, refl, hc, (l, y4, refl, byte_is len l hl, none, e4), e3), e2), e1); bytes = refl; no_fields = refl }
  kind_front (kinds.Power deepest order) n inside known q (x, y, hn, (d, y2, hd, (o, y3, ho, none, e3), e2), e1) =
      record { is_fixed = (x, y, hn, (d, y2, refl, byte_is deepest d hd, (o, y3, refl, ho, none, e3), e2), e1); bytes = refl; no_fields = refl }
  kind_front kinds.Thermal n inside known q h = record { is_fixed = h; bytes = refl; no_fields = refl }

  mutual
    item_node : (i : ItemTree) (inside : ℕ) (known : S) (place end : ℕ) (a : List ℕ) → SpellsItem i a → item_height i ≤ suc inside
        → (m : NodeTree) × IsNode r inside place end known m a × IsItem i m
    item_node (name n d) inside known place end a (x, y, hn, hd, whole) le = (
      declares named.Name no_terms n (more (data_term d) no_terms),
      record {
        spells = ([], x, y, refl, hn, (y, [], data_stands d, data_spelled (grammar_at r known) d y (spelled_data data_grammar d y hd), refl, sym (append-nil y)), whole);
        within = omega arith;
      },
      refl,
    )
    item_node (scope kind n is) inside known place end a (q, b, spelled, hs, packs) le =
        let f = kind_fixed kind n in
        let k = kind_front kind n inside known q spelled in
        held_node f (λ ns. AreItems is ns) (λ b. SpellsItems is b) inside known place end a q b hs k.no_fields k.is_fixed (subst (λ op. Packs op (q ++ b) a) (sym k.bytes) packs)
        (items_nodes is inside (r.enter known place f) end b hs (omega arith)) (goes_into r known f) refl
    item_node (method n flags code) inside known place end a (q, b, (x, y, hn, (c, d, hc, none, split2), split), same, packs) le =
        let is : q ≡ x ++ flags ∷ [] = split ∙ ap (λ (l : List ℕ). x ++ l) (split2 ∙ ap (λ (l : List ℕ). c ++ l) none ∙ append-nil c ∙ hc) in
        (closed (nodes.method n flags) code, (q, (x, hn, is), refl, subst (λ l. Packs (0x14 ∷ []) (q ++ l) a) same packs, refl), refl)
    item_node (external x) inside known place end a h le = (plain (nodes.external x), record { spells = h; within = omega arith }, refl)
    item_node (external_block xs) inside known place end a (b, hs, packs) le =
        let f = if_so (terms.int Zero) in
        let inner = externals_nodes xs inside (r.enter known place f) end b hs (omega arith) in
        held_node f (λ ns. AreExternals xs ns) (λ b. SpellsEach SpellsExternal xs b) inside known place end a (0x00 ∷ []) b hs refl
        (record { stands = refl; spells = refl; within = omega arith }) packs inner (goes_into r known f) refl
    item_node (mutex n flags) inside known place end a (q, (x, y, hn, (c, d, hc, none, split2), split), whole) le = (
      declares named.Mutex no_terms n (more (terms.raw 1 flags) no_terms),
      record { spells = ([], x, y, refl, hn, (c, d, refl, byte_is flags c hc, none, split2), rw (sym split) whole); within = omega arith },
      refl,
    )
    item_node (event n) inside known place end a (q, (x, y, hn, none, split), whole) le = (
      declares named.Event no_terms n no_terms,
      record { spells = ([], x, y, refl, hn, none, rw (sym split) whole); within = omega arith },
      refl,
    )
    item_node (region n space offset len) inside known place end a (q, (x, y, hn, (s, y2, hs, (o, y3, ho, (l, y4, hl, none, e4), e3), e2), e1), whole) le = (
      declares named.Region no_terms n (more (terms.raw 1 space) (more (terms.int offset) (more (terms.int len) no_terms))),
      record { spells = ([], x, y, refl, hn, (s, y2, refl, byte_is space s hs, (o, y3, refl, ho, (l, y4, refl, hl, none, e4), e3), e2), rw (sym e1) whole); within = omega arith },
      refl,
    )
    item_node (field n flags es) inside known place end a (q, b, (x, y, hn, (c, d, hc, none, split2), split), hs, packs) le =
        fields_node (units fields.Field (n ∷ []) (more (terms.raw 1 flags) no_terms)) es inside known place end a q b hs refl refl (
          record {
            names = x;
            operands = y;
            all_names = refl;
            are_names = (x, [], hn, refl, sym (append-nil x));
            are_operands = (c, d, refl, byte_is flags c hc, none, split2);
            whole = split;
          },
          omega arith,
        ) packs
    item_node (index_field i k flags es) inside known place end a (q, b, (x, y, hi, (d, y2, hk, (c, y3, hc, none, e3), e2), e1), hs, packs) le =
        fields_node (units fields.IndexField (i ∷ k ∷ []) (more (terms.raw 1 flags) no_terms)) es inside known place end a q b hs refl refl (
          record {
            names = x ++ d;
            operands = y2;
            all_names = refl;
            are_names = (x, d, hi, (d, [], hk, refl, sym (append-nil d)), refl);
            are_operands = (c, y3, refl, byte_is flags c hc, none, e3);
            whole = e1 ∙ ap (λ (l : List ℕ). x ++ l) e2 ∙ sym (append_assoc x d y2);
          },
          omega arith,
        ) packs
    item_node (bank_field n bank value flags es) inside known place end a (q, b, (x, y, hn, (d, y2, hk, (v, y3, hv, (c, y4, hc, none, e4), e3), e2), e1), hs, packs) le =
        fields_node (units fields.BankField (n ∷ bank ∷ []) (more (terms.int value) (more (terms.raw 1 flags) no_terms))) es inside known place end a q b hs refl refl (
          record {
            names = x ++ d;
            operands = y2;
            all_names = refl;
            are_names = (x, d, hn, (d, [], hk, refl, sym (append-nil d)), refl);
            are_operands = (v, y3, refl, hv, (c, y4, refl, byte_is flags c hc, none, e4), e3);
            whole = e1 ∙ ap (λ (l : List ℕ). x ++ l) e2 ∙ sym (append_assoc x d y2);
          },
          omega arith,
        ) packs
    item_node (create w source index n) inside known place end a (q, (x, y, hs, (i, y2, hi, (m, y3, hn, none, e3), e2), e1), whole) le = (
      declares (named.Create w) (more (terms.ref source) (more (terms.int index) no_terms)) n no_terms,
      record {
        spells = (
          x ++ i,
          m,
          [],
          (x, i, refl, hs, (i, [], refl, hi, refl, sym (append-nil i)), refl),
          hn,
          refl,
          rw (whole, e1, e2, e3, none) (simp append_assoc),
        );
        within = omega arith;
      },
      refl,
    )
    item_node (create_field source index bits n) inside known place end a (q, (x, y, hs, (i, y2, hi, (c, y3, hc, (m, y4, hn, none, e4), e3), e2), e1), whole) le = (
      declares named.CreateField (more (terms.ref source) (more (terms.int index) (more (terms.int bits) no_terms))) n no_terms,
      record {
        spells = (
          x ++ (i ++ c),
          m,
          [],
          (x, i ++ c, refl, hs, (i, c, refl, hi, (c, [], refl, hc, refl, sym (append-nil c)), refl), refl),
          hn,
          refl,
          rw (whole, e1, e2, e3, e4, none) (simp append_assoc),
        );
        within = omega arith;
      },
      refl,
    )

    items_nodes : (is : ItemTrees) (left : ℕ) (known : S) (end : ℕ) (bytes : List ℕ) → SpellsItems is bytes → items_height is ≤ left
        → (ns : NodeTrees) × AreNodes r left end known ns bytes × AreItems is ns
    items_nodes no_items left known end bytes h le = (no_more, h, refl)
    items_nodes (item i is) left known end bytes (x, y, hi, hs, whole) le =
        let place = end - length bytes in
        let levels : left ≡ suc (left - 1) = omega (arith, item_high i) in
        let m = item_node i (left - 1) known place (end - length y) x hi (omega (arith, item_high i)) in
        let rest = items_nodes is left (after r place known m.0) end y hs (omega arith) in
        (node place m.0 rest.0, (x, y, left - 1, levels, refl, m.1, rest.1, whole), (place, m.0, rest.0, refl, m.2, rest.2))

pub strict_kept : {S : Type 0} (r : Rules S) → StrictIsKept r
strict_kept r known depth code is ns h le outline =
    let ms = items_nodes r is depth known (length code) code h le in
    subst (AreItems is) (at_most_one r known depth code ms.0 ns ms.1 outline) ms.2
