-- What is spelled fits.
use Rattle.std.proofs.Common.{◌≡◌, ℕ, true, List, [], ◌∷◌, ◌++◌, refl}
use Rattle.std.proofs.lemmas.Bool.{le-leb}
use Rattle.acpi_code.specs.Spelling.{Packs}
use Rattle.acpi_code.specs.Opcodes.{opcode_bytes}
use Rattle.acpi_code.specs.Forms.{kind_opcode}
use Rattle.acpi_terms.specs.Spelling.{data_grammar, SpellsExternal, SpellsItem, SpellsItems}
use Rattle.acpi_terms.specs.steps.Data.{SpellsData, SpellsElem, SpellsElems}
use Rattle.acpi_terms.proofs.DataSpelling.{spelled_data}
use Rattle.acpi_tree.specs.Tree.{DataTree, int, str, buffer, pkg, var_pkg, ElemTree, of_data, of_name, ElemTrees, no_elems, elem, ExternalParts, ItemTree, name, scope, method, external, external_block, create, create_field, mutex, event, region, field, index_field, bank_field, ItemTrees, no_items, item}
use Rattle.acpi_tree.specs.Fits.{data_fits, elem_fits, elems_fit, external_fits, item_fits, items_fit}
use Rattle.acpi_code.proofs.Fitting.{AreBytes, both, parts, packed, term_name_fits, text_all, each_fits, fields_fit}

-- ---- data

mutual
  pub data_fit : (d : DataTree) (bytes : List ℕ) → SpellsData d bytes → AreBytes bytes → data_fits d ≡ true
  data_fit (int i) bytes h all = refl
  data_fit (str text) bytes h all = text_all text h.1.0
  data_fit (buffer size content) bytes h all = refl
  data_fit (pkg count es) bytes h all = elems_are_fit es h.1 h.3 (parts h.0 h.1 (h.0 ++ h.1) refl (packed (18 ∷ []) (h.0 ++ h.1) bytes h.4 all)).1
  data_fit (var_pkg count es) bytes h all = elems_are_fit es h.1 h.3 (parts h.0 h.1 (h.0 ++ h.1) refl (packed (19 ∷ []) (h.0 ++ h.1) bytes h.4 all)).1

  elem_is_fit : (e : ElemTree) (bytes : List ℕ) → SpellsElem e bytes → AreBytes bytes → elem_fits e ≡ true
  elem_is_fit (of_data d) bytes h all = data_fit d bytes h all
  elem_is_fit (of_name n) bytes h all = term_name_fits n bytes h

  elems_are_fit : (es : ElemTrees) (bytes : List ℕ) → SpellsElems es bytes → AreBytes bytes → elems_fit es ≡ true
  elems_are_fit no_elems bytes h all = refl
  elems_are_fit (elem e es) bytes h all = let split = parts h.0 h.1 bytes h.4 all in both (elem_is_fit e h.0 h.2 split.0) (elems_are_fit es h.1 h.3 split.1)

-- ---- Externals

external_fit : (x : ExternalParts) (bytes : List ℕ) → SpellsExternal x bytes → AreBytes bytes → external_fits x ≡ true
external_fit x bytes h all = le-leb x.args 7 h.1.3.3.2.0

-- ---- items

pub filled : (opcode a b bytes : List ℕ) → Packs opcode (a ++ b) bytes → AreBytes bytes → AreBytes b
filled opcode a b bytes p all = (parts a b (a ++ b) refl (packed opcode (a ++ b) bytes p all)).1

mutual
  item_fit : (i : ItemTree) (bytes : List ℕ) → SpellsItem i bytes → AreBytes bytes → item_fits i ≡ true
  item_fit (name n d) bytes h all =
      let inner = (parts (8 ∷ []) (h.0 ++ h.1) bytes h.4 all).1 in data_fit d h.1 (spelled_data data_grammar d h.1 h.3) (parts h.0 h.1 (h.0 ++ h.1) refl inner).1
  item_fit (scope kind n is) bytes h all = items_are_fit is h.1 h.3 (filled (opcode_bytes (kind_opcode kind)) h.0 h.1 bytes h.4 all)
  item_fit (method n flags code) bytes h all = refl
  item_fit (external x) bytes h all = external_fit x bytes h all
  item_fit (external_block xs) bytes h all =
      let inner = packed (160 ∷ []) (0 ∷ h.0) bytes h.2 all in each_fits SpellsExternal external_fits external_fit xs h.0 h.1 inner.1
  item_fit (create w source index n) bytes h all = term_name_fits source h.1.0 h.1.2
  item_fit (create_field source index bits n) bytes h all = term_name_fits source h.1.0 h.1.2
  item_fit (mutex n flags) bytes h all = refl
  item_fit (event n) bytes h all = refl
  item_fit (region n space offset len) bytes h all = refl
  item_fit (field r flags es) bytes h all = fields_fit es h.1 h.3 (filled (91 ∷ 129 ∷ []) h.0 h.1 bytes h.4 all)
  item_fit (index_field i d flags es) bytes h all = fields_fit es h.1 h.3 (filled (91 ∷ 134 ∷ []) h.0 h.1 bytes h.4 all)
  item_fit (bank_field r bank value flags es) bytes h all = fields_fit es h.1 h.3 (filled (91 ∷ 135 ∷ []) h.0 h.1 bytes h.4 all)

  pub items_are_fit : (is : ItemTrees) (bytes : List ℕ) → SpellsItems is bytes → AreBytes bytes → items_fit is ≡ true
  items_are_fit no_items bytes h all = refl
  items_are_fit (item i is) bytes h all =
      let split = parts h.0 h.1 bytes h.4 all in both (item_fit i h.0 h.2 split.0) (items_are_fit is h.1 h.3 split.1)
