-- Constant data as flat parts (ACPI 6.5, 20.2.3 and 20.2.5.4): each package stands before its elements.
use Rattle.std.specs.Prelude.{ℕ, ◌+◌, List, [], ◌∷◌, ◌++◌, length}
use Rattle.acpi_name.specs.Text.{name_text}
use Rattle.acpi_tree.specs.Tree.{DataTree, int, str, buffer, pkg, var_pkg, ElemTree, of_data, of_name, ElemTrees, no_elems, elem}
use Rattle.acpi_tree.specs.declared.tree.Int.{Int}
use Rattle.acpi_tree.specs.declared.tree.Int.TheVariants.{Zero, Byte}
use Rattle.acpins_records.specs.declared.parts.PartRecord.{PartRecord}
use Rattle.acpins_records.specs.Constants.{form_of, value_of}

-- how many parts some data has: itself, and those of its elements
abbrev mutual
  pub parts_in : DataTree → ℕ
  parts_in (pkg count es) = 1 + elems_parts_in es
  parts_in (var_pkg count es) = 1 + elems_parts_in es
  parts_in _ = 1

  pub elem_parts_in : ElemTree → ℕ
  elem_parts_in (of_data d) = parts_in d
  elem_parts_in (of_name name) = 1

  pub elems_parts_in : ElemTrees → ℕ
  elems_parts_in no_elems = 0
  elems_parts_in (elem e es) = elem_parts_in e + elems_parts_in es

-- the bytes that its parts hold: of a string without the 00 that ends it, of a buffer those that are given, the text of
-- a name
abbrev mutual
  pub data_bytes : DataTree → List ℕ
  data_bytes (int i) = []
  data_bytes (str bytes) = bytes
  data_bytes (buffer size bytes) = bytes
  data_bytes (pkg count es) = elems_bytes es
  data_bytes (var_pkg count es) = elems_bytes es

  pub elem_bytes : ElemTree → List ℕ
  elem_bytes (of_data d) = data_bytes d
  elem_bytes (of_name name) = name_text name

  pub elems_bytes : ElemTrees → List ℕ
  elems_bytes no_elems = []
  elems_bytes (elem e es) = elem_bytes e ++ elems_bytes es

-- a part; its constant is Zero where it has none
abbrev pub part : (kind : ℕ) → Int → (byte bytes behind : ℕ) → PartRecord
part kind constant byte bytes behind = record {
  kind = kind;
  form = form_of constant;
  value = value_of constant;
  byte = byte;
  bytes = bytes;
  behind = behind;
}

-- its parts, where the first stands at a place of all parts, and their first byte at a place of all bytes
abbrev mutual
  pub data_parts : (place byte : ℕ) → DataTree → List PartRecord
  data_parts place byte (int i) = part 0 i 0 0 (place + 1) ∷ []
  data_parts place byte (str bytes) = part 1 Zero byte (length bytes) (place + 1) ∷ []
  data_parts place byte (buffer size bytes) = part 2 size byte (length bytes) (place + 1) ∷ []
  data_parts place byte (pkg count es) =
      part 3 (Byte count) 0 0 (place + 1 + elems_parts_in es) ∷ elems_parts (place + 1) byte es
  data_parts place byte (var_pkg count es) =
      part 4 count 0 0 (place + 1 + elems_parts_in es) ∷ elems_parts (place + 1) byte es

  pub elem_parts : (place byte : ℕ) → ElemTree → List PartRecord
  elem_parts place byte (of_data d) = data_parts place byte d
  elem_parts place byte (of_name name) = part 5 Zero byte (length (name_text name)) (place + 1) ∷ []

  pub elems_parts : (place byte : ℕ) → ElemTrees → List PartRecord
  elems_parts place byte no_elems = []
  elems_parts place byte (elem e es) = elem_parts place byte e
      ++ elems_parts (place + elem_parts_in e) (byte + length (elem_bytes e)) es
