-- What is written spells its tree: items.
use Rattle.std.proofs.Common.{◌≡◌, ℕ, true, List, [], ◌∷◌, ◌++◌, None, Option, Some, refl, sym, ap, ◌∙◌}
use Rattle.std.proofs.lemmas.Bool.{leb-true, not-true}
use Rattle.acpi_name.specs.Names.{NameParts, is_null_name}
use Rattle.acpi_name.specs.Spelling.{name_bytes}
use Rattle.acpi_name.proofs.NameWritten.{name_written}
use Rattle.acpi_code.specs.Opcodes.{opcode_bytes}
use Rattle.acpi_code.specs.declared.opcode.Opcode.TheVariants as opcodes
use Rattle.acpi_code.specs.Fields.{SpellsFields}
use Rattle.acpi_code.specs.Spelling.{SpellsEach, Packs}
use Rattle.acpi_tree.specs.declared.tree.ScopeKind.{ScopeKind}
use Rattle.acpi_tree.specs.declared.tree.ScopeKind.TheVariants as kinds
use Rattle.acpi_tree.specs.Tree.{DataTree, int, str, buffer, pkg, var_pkg, of_data, of_name, ElemTrees, no_elems, elem, ExternalParts, ItemTree, name, scope, method, external, external_block, create, create_field, mutex, event, region, field, index_field, bank_field, ItemTrees, no_items, item}
use Rattle.acpi_tree.specs.DataTerms.{data_term, elem_terms}
use Rattle.acpi_tree.specs.Fits.{data_fits, elems_fit, external_fits, item_fits, items_fit}
use Rattle.acpi_tree.specs.TermFits.{term_fits, all_stand}
use Rattle.acpi_tree.specs.declared.place.Place.TheVariants.{Element}
use Rattle.acpi_terms.specs.Forms.{name_arg, byte_arg, int_arg, fixed_arguments, kind_opcode, kind_arguments}
use Rattle.acpi_body.specs.Grammars.{Grammar}
use Rattle.acpi_terms.specs.Spelling.{data_grammar, SpellsExternal, SpellsItem, SpellsItems}
use Rattle.acpi_write.specs.Canonical.{filled_with, each_bytes, fields_bytes}
use Rattle.acpi_write.specs.CanonicalTerms.{term_bytes}
use Rattle.acpi_write.specs.CanonicalItems.{external_bytes, item_bytes, items_bytes}
use Rattle.acpi_write.specs.Laws.{IsExternalTyped, IsItemTyped, AreItemsTyped}
use Rattle.acpi_write.specs.TermLaws.{IsCounted, AreCounted}
use Rattle.acpi_write.proofs.Written.{AllStand, first_of, second_of, both_of, some_is, form_written, packed_written, filled_written, each_written, fields_written}
use Rattle.acpi_write.proofs.TermsWritten.{term_written}

-- ---- data as a term

mutual
  data_term_fits : (d : DataTree) → term_fits (data_term d) ≡ data_fits d
  data_term_fits (int i) = refl
  data_term_fits (str text) = refl
  data_term_fits (buffer size content) = refl
  data_term_fits (pkg count es) = elem_terms_fit es
  data_term_fits (var_pkg count es) = elem_terms_fit es

  elem_terms_fit : (es : ElemTrees) → all_stand Element (elem_terms es) ≡ elems_fit es
  elem_terms_fit no_elems = refl
  elem_terms_fit (elem (of_name n) es) = rw (elem_terms_fit es) refl
  elem_terms_fit (elem (of_data (int i)) es) = elem_terms_fit es
  elem_terms_fit (elem (of_data (str text)) es) = rw (elem_terms_fit es) refl
  elem_terms_fit (elem (of_data (buffer size content)) es) = elem_terms_fit es
  elem_terms_fit (elem (of_data (pkg count ds)) es) = rw (elem_terms_fit ds, elem_terms_fit es) refl
  elem_terms_fit (elem (of_data (var_pkg count ds)) es) = rw (elem_terms_fit ds, elem_terms_fit es) refl

-- no name in it calls
mutual
  data_counted : (args : Grammar) (d : DataTree) → IsCounted args (data_term d)
  data_counted args (int i) = tt
  data_counted args (str text) = tt
  data_counted args (buffer size content) = tt
  data_counted args (pkg count es) = elems_counted args es
  data_counted args (var_pkg count es) = (tt, elems_counted args es)

  elems_counted : (args : Grammar) (es : ElemTrees) → AreCounted args (elem_terms es)
  elems_counted args no_elems = tt
  elems_counted args (elem (of_data d) es) = (data_counted args d, elems_counted args es)
  elems_counted args (elem (of_name n) es) = (tt, elems_counted args es)

-- ---- items

external_written : (x : ExternalParts) (bytes : List ℕ) → IsExternalTyped x → external_fits x ≡ true → Some (external_bytes x) ≡ Some bytes → SpellsExternal x bytes
external_written x bytes h fit e = form_written opcodes.External (x.name, (x.kind, (x.args, tt))) bytes (h, (tt, (tt, tt))) (tt, (tt, (leb-true x.args 7 fit, tt))) e

kind_stands : (kind : ScopeKind) (n : NameParts) → AllStand (fixed_arguments (kind_opcode kind)) (kind_arguments kind n)
kind_stands kinds.Scope n = (tt, tt)
kind_stands kinds.Device n = (tt, tt)
kind_stands (kinds.Processor id block len) n = (tt, (tt, (tt, (tt, tt))))
kind_stands (kinds.Power level order) n = (tt, (tt, (tt, tt)))
kind_stands kinds.Thermal n = (tt, tt)

mutual
  item_written : (i : ItemTree) (bytes : List ℕ) → IsItemTyped i → item_fits i ≡ true → item_bytes i ≡ Some bytes → SpellsItem i bytes
  item_written (name n d) bytes h fit e =
      let b = both_of (Some (8 ∷ name_bytes n)) (term_bytes (data_term d)) bytes e in
      let spelled = term_written data_grammar (data_term d) b.back h.1 (data_term_fits d ∙ fit) (data_counted data_grammar d) b.is_back in
      (name_bytes n, b.back, name_written n h.0, spelled, b.whole ∙ ap (λ a. a ++ b.back) (sym (some_is (8 ∷ name_bytes n) b.front b.is_front)))
  item_written (scope kind n is) bytes h fit e = filled_written (opcode_bytes (kind_opcode kind)) (fixed_arguments (kind_opcode kind)) (kind_arguments kind n)
      (λ b. SpellsItems is b) (items_bytes is) bytes h.0 (kind_stands kind n) (λ b e. items_written is b h.1 fit e) e
  item_written (method n flags code) bytes h fit e = filled_written (20 ∷ []) (name_arg ∷ byte_arg ∷ []) (n, (flags, tt)) (λ b. b ≡ code) (Some code)
      bytes h (tt, (tt, tt)) (λ b e. sym (some_is code b e)) e
  item_written (external x) bytes h fit e = external_written x bytes h fit e
  item_written (external_block xs) bytes h fit e = block_written (each_bytes (λ x. Some (external_bytes x)) xs) refl e
    where
      block_written : (content : Option (List ℕ)) → each_bytes (λ x. Some (external_bytes x)) xs ≡ content → filled_with (160 ∷ []) (0 ∷ []) content ≡ Some bytes
          → (b : List ℕ) × SpellsEach SpellsExternal xs b × Packs (160 ∷ []) (0 ∷ b) bytes
      block_written None is e = absurd cc
      block_written (Some b) is e = (
        b,
        each_written (λ x. Some (external_bytes x)) SpellsExternal IsExternalTyped external_fits external_written xs b
            h fit is,
        packed_written (160 ∷ []) (0 ∷ b) bytes e,
      )
  item_written (create w source index n) bytes h fit e = form_written (opcodes.Create w) (source, (index, (n, tt))) bytes h (not-true (is_null_name source) fit, (tt, (tt, tt))) e
  item_written (create_field source index bits n) bytes h fit e = form_written opcodes.CreateField (source, (index, (bits, (n, tt)))) bytes h
      (not-true (is_null_name source) fit, (tt, (tt, (tt, tt)))) e
  item_written (mutex n flags) bytes h fit e = form_written opcodes.Mutex (n, (flags, tt)) bytes h (tt, (tt, tt)) e
  item_written (event n) bytes h fit e = form_written opcodes.Event (n, tt) bytes h (tt, tt) e
  item_written (region n space offset len) bytes h fit e = form_written opcodes.Region (n, (space, (offset, (len, tt)))) bytes h (tt, (tt, (tt, (tt, tt)))) e
  item_written (field r flags es) bytes h fit e = filled_written (91 ∷ 129 ∷ []) (name_arg ∷ byte_arg ∷ []) (r, (flags, tt)) (λ b. SpellsFields es b)
      (fields_bytes es) bytes h.0 (tt, (tt, tt)) (λ b e. fields_written es b h.1 fit e) e
  item_written (index_field i d flags es) bytes h fit e = filled_written (91 ∷ 134 ∷ []) (name_arg ∷ name_arg ∷ byte_arg ∷ []) (i, (d, (flags, tt)))
      (λ b. SpellsFields es b) (fields_bytes es) bytes h.0 (tt, (tt, (tt, tt))) (λ b e. fields_written es b h.1 fit e) e
  item_written (bank_field r bank value flags es) bytes h fit e = filled_written (91 ∷ 135 ∷ []) (name_arg ∷ name_arg ∷ int_arg ∷ byte_arg ∷ [])
      (r, (bank, (value, (flags, tt)))) (λ b. SpellsFields es b) (fields_bytes es) bytes h.0 (tt, (tt, (tt, (tt, tt))))
      (λ b e. fields_written es b h.1 fit e) e

  pub items_written : (is : ItemTrees) (bytes : List ℕ) → AreItemsTyped is → items_fit is ≡ true → items_bytes is ≡ Some bytes → SpellsItems is bytes
  items_written no_items bytes h fit e = sym (some_is [] bytes e)
  items_written (item i is) bytes h fit e =
      let b = both_of (item_bytes i) (items_bytes is) bytes e in
      (b.front, b.back, item_written i b.front h.0 (first_of (item_fits i) (items_fit is) fit) b.is_front, items_written is b.back h.1 (second_of (item_fits i) (items_fit is) fit) b.is_back, b.whole)
