-- No spelling is shorter: items.
use Rattle.std.proofs.Common.{◌≡◌, ◌<◌, ◌≤◌, ℕ, List, [], ◌∷◌, length, Some, None, refl, sym, ap, subst, arith}
use Rattle.std.proofs.lemmas.List.Elements.{recursion_from_All}
use Rattle.std.specs.List.{AllByRecursion}
use Rattle.acpi_name.specs.Spelling.{name_bytes}
use Rattle.acpi_name.proofs.NameWritten.{name_shortest}
use Rattle.acpi_code.specs.declared.opcode.Opcode.{Opcode}
use Rattle.acpi_code.specs.declared.opcode.Opcode.TheVariants as opcodes
use Rattle.acpi_code.specs.Opcodes.{opcode_bytes}
use Rattle.acpi_code.specs.Fields.{SpellsFields}
use Rattle.acpi_code.proofs.Fitting.{AreBytes, parts, packed}
use Rattle.acpi_tree.specs.DataTerms.{data_term}
use Rattle.acpi_tree.specs.Tree.{FieldTree, ExternalParts, ItemTree, name, scope, method, external, external_block, create, create_field, mutex, event, region, field, index_field, bank_field, ItemTrees, no_items, item}
use Rattle.acpi_terms.specs.Forms.{FixedArgument, name_arg, byte_arg, int_arg, Values, fixed_arguments, ArgumentsOf, kind_opcode, kind_arguments}
use Rattle.acpi_terms.specs.Spelling.{data_grammar, SpellsPacked, SpellsForm, SpellsExternal, SpellsItem, SpellsItems}
use Rattle.acpi_write.specs.Canonical.{form_bytes, each_bytes, fields_bytes}
use Rattle.acpi_write.specs.CanonicalTerms.{term_bytes}
use Rattle.acpi_write.specs.CanonicalItems.{external_bytes, item_bytes, items_bytes}
use Rattle.acpi_write.specs.Laws.{AreTyped, IsFieldTyped, IsExternalTyped, IsItemTyped, AreItemsTyped}
use Rattle.acpi_write.specs.Shortest.{HasWithin, IsShortened, AreShortened, NoItemsAreShorter, SpelledItemsAreTyped}
use Rattle.acpi_write.proofs.Shorter.{within_both, within_packed, plain_short, filled_short, each_short, fields_short, plain_typed, front_typed, content_of, each_typed, fields_typed}
use Rattle.acpi_write.proofs.TermsShorter.{term_short, term_typed}

external_short : (x : ExternalParts) (bytes : List ℕ) → AreBytes bytes → SpellsExternal x bytes → HasWithin (Some (external_bytes x)) bytes
external_short x bytes all h = plain_short (21 ∷ []) (fixed_arguments opcodes.External) (x.name, (x.kind, (x.args, tt))) bytes all h

form_short : (o : Opcode) (v : ArgumentsOf o) (i j : ItemTree) (bytes : List ℕ) → AreBytes bytes → SpellsForm o v bytes
    → item_bytes i ≡ Some (form_bytes o v) → j ≡ i → HasWithin (item_bytes j) bytes
form_short o v i j bytes all h is e = subst (λ x. HasWithin (item_bytes x) bytes) (sym e) (subst (λ x. HasWithin x bytes) (sym is) (plain_short (opcode_bytes o) (fixed_arguments o) v bytes all h))

mutual
  item_short : (i j : ItemTree) (bytes : List ℕ) → AreBytes bytes → SpellsItem i bytes → IsShortened i j → HasWithin (item_bytes j) bytes
  item_short (name n d) j bytes all (a, b, named, fills, whole) e =
      let split = parts (8 ∷ a) b bytes whole all in
      let le : length (name_bytes n) ≤ length a = name_shortest n a named in
      subst (λ x. HasWithin (item_bytes x) bytes) (sym e) (within_both (Some (8 ∷ name_bytes n)) (term_bytes (data_term d)) (8 ∷ a) b bytes (omega (arith, le)) (term_short data_grammar (data_term d) b split.1 fills) whole)
  item_short (scope kind n is) j bytes all h (js, s, e) = subst (λ x. HasWithin (item_bytes x) bytes) (sym e)
      (filled_short (opcode_bytes (kind_opcode kind)) (fixed_arguments (kind_opcode kind)) (kind_arguments kind n) (λ b. SpellsItems is b) (items_bytes js)
      bytes all h (λ b small k. items_short is js b small k s))
  item_short (method n flags code) j bytes all h (short, le, e) =
      subst (λ x. HasWithin (item_bytes x) bytes) (sym e) (filled_short (20 ∷ []) (name_arg ∷ byte_arg ∷ []) (n, (flags, tt)) (λ b. b ≡ code)
      (Some short) bytes all h (λ b small k. omega (arith, ap length k, le)))
  item_short (external x) j bytes all h e = subst (λ x. HasWithin (item_bytes x) bytes) (sym e) (external_short x bytes all h)
  item_short (external_block xs) j bytes all (b, each, packs) e =
      let inner = parts (0 ∷ []) b (0 ∷ b) refl (packed (160 ∷ []) (0 ∷ b) bytes packs all) in
      let content = each_short (λ x. Some (external_bytes x)) SpellsExternal external_short xs b inner.1 each in
      subst (λ x. HasWithin (item_bytes x) bytes) (sym e) (within_packed (160 ∷ []) (0 ∷ []) (each_bytes (λ x. Some (external_bytes x)) xs) (0 ∷ b)
      bytes all packs (within_both (Some (0 ∷ [])) _ (0 ∷ []) b (0 ∷ b) (omega arith) content refl))
  item_short (create w source index n) j bytes all h e = form_short (opcodes.Create w) (source, (index, (n, tt))) (create w source index n) j bytes all h refl e
  item_short (create_field source index bits n) j bytes all h e = form_short opcodes.CreateField (source, (index, (bits, (n, tt)))) (create_field source index bits n) j bytes all h refl e
  item_short (mutex n flags) j bytes all h e = form_short opcodes.Mutex (n, (flags, tt)) (mutex n flags) j bytes all h refl e
  item_short (event n) j bytes all h e = form_short opcodes.Event (n, tt) (event n) j bytes all h refl e
  item_short (region n space offset len) j bytes all h e = form_short opcodes.Region (n, (space, (offset, (len, tt)))) (region n space offset len) j bytes all h refl e
  item_short (field r flags es) j bytes all h e =
      subst (λ x. HasWithin (item_bytes x) bytes) (sym e) (filled_short (91 ∷ 129 ∷ []) (name_arg ∷ byte_arg ∷ []) (r, (flags, tt))
      (λ b. SpellsFields es b) (fields_bytes es) bytes all h (λ b small k. fields_short es b small k))
  item_short (index_field i d flags es) j bytes all h e =
      subst (λ x. HasWithin (item_bytes x) bytes) (sym e) (filled_short (91 ∷ 134 ∷ []) (name_arg ∷ name_arg ∷ byte_arg ∷ []) (i, (d, (flags, tt)))
      (λ b. SpellsFields es b) (fields_bytes es) bytes all h (λ b small k. fields_short es b small k))
  item_short (bank_field r bank value flags es) j bytes all h e =
      subst (λ x. HasWithin (item_bytes x) bytes) (sym e)
      (filled_short (91 ∷ 135 ∷ []) (name_arg ∷ name_arg ∷ int_arg ∷ byte_arg ∷ []) (r, (bank, (value, (flags, tt)))) (λ b. SpellsFields es b)
      (fields_bytes es) bytes all h (λ b small k. fields_short es b small k))

  items_short : (is js : ItemTrees) (bytes : List ℕ) → AreBytes bytes → SpellsItems is bytes → AreShortened is js → HasWithin (items_bytes js) bytes
  items_short no_items js bytes all h e = rw (e, h) (omega arith)
  items_short (item i is) js bytes all (a, b, first, rest, whole) (k, ks, s, t, e) =
      let split = parts a b bytes whole all in
      subst (λ x. HasWithin (items_bytes x) bytes) (sym e) (within_both (item_bytes k) (items_bytes ks) a b bytes (item_short i k a split.0 first s) (items_short is ks b split.1 rest t) whole)

pub items_are_shortest : NoItemsAreShorter
items_are_shortest is js bytes all h s = items_short is js bytes (recursion_from_All (λ b. b < 256) bytes all) h s

-- ---- what is spelled has the values that a value in memory has

external_typed : (x : ExternalParts) (bytes : List ℕ) → AreBytes bytes → SpellsExternal x bytes → IsExternalTyped x
external_typed x bytes all h = (plain_typed (21 ∷ []) (fixed_arguments opcodes.External) (x.name, (x.kind, (x.args, tt))) bytes all h).0

units_typed : (op : List ℕ) (ks : List FixedArgument) (v : Values ks) (es : List FieldTree) (bytes : List ℕ) → AreBytes bytes
    → SpellsPacked op ks v (λ b. SpellsFields es b) bytes → AreTyped ks v × AllByRecursion IsFieldTyped es
units_typed op ks v es bytes all h =
    let c = content_of op ks v (λ b. SpellsFields es b) bytes all h in
    (front_typed op ks v (λ b. SpellsFields es b) bytes all h, fields_typed es c.0 c.1 c.2)

-- a package of items
held_typed : (op : List ℕ) (ks : List FixedArgument) (v : Values ks) (is : ItemTrees) (bytes : List ℕ) → AreBytes bytes
    → SpellsPacked op ks v (λ b. SpellsItems is b) bytes → ((b : List ℕ) → AreBytes b → SpellsItems is b → AreItemsTyped is)
    → AreTyped ks v × AreItemsTyped is
held_typed op ks v is bytes all h each =
    let c = content_of op ks v (λ b. SpellsItems is b) bytes all h in
    (front_typed op ks v (λ b. SpellsItems is b) bytes all h, each c.0 c.1 c.2)

mutual
  item_typed : (i : ItemTree) (bytes : List ℕ) → AreBytes bytes → SpellsItem i bytes → IsItemTyped i
  item_typed (name n d) bytes all (a, b, named, fills, whole) = (named.is_name, term_typed data_grammar (data_term d) b (parts (8 ∷ a) b bytes whole all).1 fills)
  item_typed (scope kind n is) bytes all h =
      held_typed (opcode_bytes (kind_opcode kind)) (fixed_arguments (kind_opcode kind)) (kind_arguments kind n) is bytes all h (λ b small k. items_typed is b small k)
  item_typed (method n flags code) bytes all h = front_typed (20 ∷ []) (name_arg ∷ byte_arg ∷ []) (n, (flags, tt)) (λ b. b ≡ code) bytes all h
  item_typed (external x) bytes all h = external_typed x bytes all h
  item_typed (external_block xs) bytes all (b, each, packs) = each_typed SpellsExternal IsExternalTyped external_typed xs b
      (parts (0 ∷ []) b (0 ∷ b) refl (packed (160 ∷ []) (0 ∷ b) bytes packs all)).1 each
  item_typed (create w source index n) bytes all h = plain_typed (opcode_bytes (opcodes.Create w)) (fixed_arguments (opcodes.Create w)) (source, (index, (n, tt))) bytes all h
  item_typed (create_field source index bits n) bytes all h = plain_typed (91 ∷ 19 ∷ []) (fixed_arguments opcodes.CreateField) (source, (index, (bits, (n, tt)))) bytes all h
  item_typed (mutex n flags) bytes all h = plain_typed (91 ∷ 1 ∷ []) (fixed_arguments opcodes.Mutex) (n, (flags, tt)) bytes all h
  item_typed (event n) bytes all h = plain_typed (91 ∷ 2 ∷ []) (fixed_arguments opcodes.Event) (n, tt) bytes all h
  item_typed (region n space offset len) bytes all h = plain_typed (91 ∷ 128 ∷ []) (fixed_arguments opcodes.Region) (n, (space, (offset, (len, tt)))) bytes all h
  item_typed (field r flags es) bytes all h = units_typed (91 ∷ 129 ∷ []) (name_arg ∷ byte_arg ∷ []) (r, (flags, tt)) es bytes all h
  item_typed (index_field i d flags es) bytes all h = units_typed (91 ∷ 134 ∷ []) (name_arg ∷ name_arg ∷ byte_arg ∷ []) (i, (d, (flags, tt))) es bytes all h
  item_typed (bank_field r bank value flags es) bytes all h = units_typed (91 ∷ 135 ∷ []) (name_arg ∷ name_arg ∷ int_arg ∷ byte_arg ∷ []) (r, (bank, (value, (flags, tt)))) es bytes all h

  items_typed : (is : ItemTrees) (bytes : List ℕ) → AreBytes bytes → SpellsItems is bytes → AreItemsTyped is
  items_typed no_items bytes all h = tt
  items_typed (item i is) bytes all (a, b, first, rest, whole) = let split = parts a b bytes whole all in (item_typed i a split.0 first, items_typed is b split.1 rest)

pub items_are_typed : SpelledItemsAreTyped
items_are_typed is bytes all h = items_typed is bytes (recursion_from_All (λ b. b < 256) bytes all) h
