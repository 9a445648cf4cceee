-- Objects that terms declare, with terms where their values may be computed (ACPI 6.5, 5.3 and 20.2.5.2).
use Rattle.std.specs.Prelude.{ℕ, Option}
use Rattle.acpi_tree.specs.declared.tree.Width.{Width}
use Rattle.acpi_tree.specs.Objects.{ObjectTree}
use Rattle.acpi_tree.specs.Terms.{TermTree}

-- An object that has no terms; a name with its data, which may be lost; an operation region; a region of the bytes of a
-- table; another name; an element of a BankField; and Create fields, whose source is None where it is a name.
pub data ObjectParts : Type 0 where
  constant : ObjectTree → ObjectParts
  named : Option TermTree → ObjectParts
  region : (space : ℕ) → (offset length : TermTree) → ObjectParts
  table_region : (signature oem_id oem_table_id : TermTree) → ObjectParts
  alias : ObjectParts
  bank_unit : (value : TermTree) → (flags offset bits : ℕ) → ObjectParts
  create : Width → Option TermTree → (index : TermTree) → ObjectParts
  create_bits : Option TermTree → (index bits : TermTree) → ObjectParts
