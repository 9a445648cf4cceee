-- How many bits field lists take (ACPI 6.5, 20.2.5.2 FieldList).
use Rattle.std.specs.Prelude.{◌+◌, ◌^◌, ◌<◌, ℕ, List, [], ◌∷◌}
use Rattle.acpi_tree.specs.Tree.{FieldTree, unit, reserved, ItemTree, scope, field, index_field, bank_field, ItemTrees, no_items, item}

-- the bits of an element: those of a NamedField and of a ReservedField
abbrev pub element_bits : FieldTree → ℕ
element_bits (unit s bits) = bits
element_bits (reserved bits) = bits
element_bits _ = 0

-- the bits of a field list, so more than the offset of each element in it
abbrev pub list_bits : List FieldTree → ℕ
list_bits [] = 0
list_bits (e ∷ es) = element_bits e + list_bits es

-- the bits of each field list are a number of 64 bits
abbrev mutual
  pub OffsetFits : ItemTree → Type 0
  OffsetFits (field r flags es) = list_bits es < 2 ^ 64
  OffsetFits (index_field i d flags es) = list_bits es < 2 ^ 64
  OffsetFits (bank_field r bank value flags es) = list_bits es < 2 ^ 64
  OffsetFits (scope kind n is) = OffsetsFit is
  OffsetFits _ = Unit {0}

  pub OffsetsFit : ItemTrees → Type 0
  OffsetsFit no_items = Unit {0}
  OffsetsFit (item i is) = OffsetFits i × OffsetsFit is
