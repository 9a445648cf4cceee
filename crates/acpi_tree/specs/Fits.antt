-- Which trees have a spelling, but for the lengths of packages (ACPI 6.5, 20.2).
use Rattle.std.specs.Prelude.{ℕ, Bool, true, false, not, ◌&&◌, nat_lt, nat_le}
use Rattle.std.specs.List.{list_all}
use Rattle.acpi_name.specs.Names.{is_null_name}
use Rattle.acpi_tree.specs.Tree.{DataTree, str, pkg, var_pkg, ElemTree, of_data, of_name, ElemTrees, no_elems, elem, FieldTree, unit, reserved, ExternalParts, ItemTree, name, scope, external, external_block, create, create_field, field, index_field, bank_field, ItemTrees, no_items, item}

-- AsciiChar: 01 to 7F (20.2.3)
abbrev pub text_fits : ℕ → Bool
text_fits b = nat_lt 0 b && nat_lt b 128

-- constant data: strings of characters (20.2.3)
abbrev mutual
  pub data_fits : DataTree → Bool
  data_fits (str s) = list_all text_fits s
  data_fits (pkg n es) = elems_fit es
  data_fits (var_pkg i es) = elems_fit es
  data_fits _ = true

  pub elem_fits : ElemTree → Bool
  elem_fits (of_data d) = data_fits d
  elem_fits (of_name n) = not (is_null_name n)

  pub elems_fit : ElemTrees → Bool
  elems_fit no_elems = true
  elems_fit (elem e es) = elem_fits e && elems_fit es

-- a number that a package length can spell, 28 bits (20.2.4)
abbrev pub bits_fit : ℕ → Bool
bits_fit n = nat_le n 268435455

abbrev pub field_fits : FieldTree → Bool
field_fits (unit s n) = bits_fit n
field_fits (reserved n) = bits_fit n
field_fits _ = true

-- an External has at most 7 arguments (20.2.5.2)
abbrev pub external_fits : ExternalParts → Bool
external_fits x = nat_le x.args 7

abbrev mutual
  pub item_fits : ItemTree → Bool
  item_fits (name n d) = data_fits d
  item_fits (scope kind n is) = items_fit is
  item_fits (external x) = external_fits x
  item_fits (external_block xs) = list_all external_fits xs
  item_fits (create w s i n) = not (is_null_name s)
  item_fits (create_field s i b n) = not (is_null_name s)
  item_fits (field r f es) = list_all field_fits es
  item_fits (index_field i d f es) = list_all field_fits es
  item_fits (bank_field r b v f es) = list_all field_fits es
  item_fits _ = true

  pub items_fit : ItemTrees → Bool
  items_fit no_items = true
  items_fit (item i is) = item_fits i && items_fit is

-- the forms that hold items
abbrev pub holds_items : ItemTree → Bool
holds_items (scope kind n is) = true
holds_items _ = false
