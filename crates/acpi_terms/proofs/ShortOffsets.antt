-- In code that is no longer than a table the bits of each field list are a number of 64 bits.
use Rattle.std.proofs.Common.{◌≡◌, ℕ, ◌+◌, ◌*◌, ◌^◌, ◌≤◌, ◌<◌, List, [], ◌∷◌, ◌++◌, length, refl, ap, subst, ◌∙◌, arith}
use Rattle.std.proofs.lemmas.Bool.{leb-true}
use Rattle.std.proofs.lemmas.List.{length-append}
use Rattle.acpi_tree.specs.Tree.{FieldTree, unit, reserved, access, connect_name, connect_buffer, extended, ItemTree, name, scope, method, external, external_block, create, create_field, mutex, event, region, field, index_field, bank_field, ItemTrees, no_items, item}
use Rattle.acpi_code.specs.Spelling.{SpellsEach, Packs}
use Rattle.acpi_code.proofs.Fields.{field_long}
use Rattle.acpi_code.proofs.Fitting.{AreBytes, front_bytes, back_bytes, field_fit}
use Rattle.acpi_code.specs.Fields.{SpellsField}
use Rattle.acpi_code.specs.Opcodes.{opcode_bytes}
use Rattle.acpi_code.specs.Forms.{kind_opcode}
use Rattle.acpi_terms.specs.Spelling.{SpellsItem, SpellsItems}
use Rattle.acpi_tree.specs.Offsets.{element_bits, list_bits, OffsetFits, OffsetsFit}

element_bound : (e : FieldTree) (bytes : List ℕ) → SpellsField e bytes → AreBytes bytes → element_bits e ≤ 268435455
element_bound (unit s bits) bytes h all = leb-true bits 268435455 (field_fit (unit s bits) bytes h all)
element_bound (reserved bits) bytes h all = leb-true bits 268435455 (field_fit (reserved bits) bytes h all)
element_bound (access k a) bytes h all = omega arith
element_bound (connect_name n) bytes h all = omega arith
element_bound (connect_buffer i s) bytes h all = omega arith
element_bound (extended k a l) bytes h all = omega arith

-- each element is spelled by a byte or more
list_bound : (es : List FieldTree) (bytes : List ℕ) → SpellsEach SpellsField es bytes → AreBytes bytes → list_bits es ≤ 268435455 * length bytes
list_bound [] bytes h all = omega arith
list_bound (e ∷ es) bytes h all =
    let split : AreBytes (h.0 ++ h.1) = subst AreBytes h.4 all in
    let one = element_bound e h.0 h.2 (front_bytes h.0 h.1 split) in
    let more = list_bound es h.1 h.3 (back_bytes h.0 h.1 split) in
    let some = field_long e h.0 h.2 in
    let sizes : length bytes ≡ length h.0 + length h.1 = ap length h.4 ∙ length-append h.0 h.1 in
    omega (arith, one, more, some, sizes)

list_fits : (es : List FieldTree) (bytes : List ℕ) → SpellsEach SpellsField es bytes → AreBytes bytes → length bytes ≤ 16777216 → list_bits es < 2 ^ 64
list_fits es bytes h all le = let most = list_bound es bytes h all in omega (arith, most, le)

-- bytes that are no more than those of code, which is no longer than a table
abbrev Short : List ℕ → Type 0
Short bytes = AreBytes bytes × (length bytes ≤ 16777216)

left_short : (a b bytes : List ℕ) → bytes ≡ a ++ b → Short bytes → Short a
left_short a b bytes is h =
    let sizes : length bytes ≡ length a + length b = ap length is ∙ length-append a b in
    (front_bytes a b (subst AreBytes is h.0), omega (arith, h.1, sizes))

right_short : (a b bytes : List ℕ) → bytes ≡ a ++ b → Short bytes → Short b
right_short a b bytes is h =
    let sizes : length bytes ≡ length a + length b = ap length is ∙ length-append a b in
    (back_bytes a b (subst AreBytes is h.0), omega (arith, h.1, sizes))

filled_short : (opcode a b bytes : List ℕ) → Packs opcode (a ++ b) bytes → Short bytes → Short b
filled_short opcode a b bytes p h =
    right_short a b (a ++ b) refl (right_short p.len (a ++ b) (p.len ++ (a ++ b)) refl (right_short opcode (p.len ++ (a ++ b)) bytes p.whole h))

mutual
  item_offsets : (i : ItemTree) (bytes : List ℕ) → SpellsItem i bytes → Short bytes → OffsetFits i
  item_offsets (name n d) bytes h short = tt
  item_offsets (scope kind n is) bytes h short = items_offsets is h.1 h.3 (filled_short (opcode_bytes (kind_opcode kind)) h.0 h.1 bytes h.4 short)
  item_offsets (method n flags code) bytes h short = tt
  item_offsets (external x) bytes h short = tt
  item_offsets (external_block xs) bytes h short = tt
  item_offsets (create w source index n) bytes h short = tt
  item_offsets (create_field source index bits n) bytes h short = tt
  item_offsets (mutex n flags) bytes h short = tt
  item_offsets (event n) bytes h short = tt
  item_offsets (region n space offset len) bytes h short = tt
  item_offsets (field r flags es) bytes h short = let s = filled_short (91 ∷ 129 ∷ []) h.0 h.1 bytes h.4 short in list_fits es h.1 h.3 s.0 s.1
  item_offsets (index_field i d flags es) bytes h short = let s = filled_short (91 ∷ 134 ∷ []) h.0 h.1 bytes h.4 short in list_fits es h.1 h.3 s.0 s.1
  item_offsets (bank_field r bank value flags es) bytes h short = let s = filled_short (91 ∷ 135 ∷ []) h.0 h.1 bytes h.4 short in list_fits es h.1 h.3 s.0 s.1

  items_offsets : (is : ItemTrees) (bytes : List ℕ) → SpellsItems is bytes → Short bytes → OffsetsFit is
  items_offsets no_items bytes h short = tt
  items_offsets (item i is) bytes h short = (item_offsets i h.0 h.2 (left_short h.0 h.1 bytes h.4 short), items_offsets is h.1 h.3 (right_short h.0 h.1 bytes h.4 short))

-- what is spelled in at most 2 ^ 24 bytes has field lists of fewer than 2 ^ 64 bits
pub offsets_fit : (is : ItemTrees) (bytes : List ℕ) → SpellsItems is bytes → AreBytes bytes → length bytes ≤ 16777216 → OffsetsFit is
offsets_fit is bytes h all le = items_offsets is bytes h (all, le)
