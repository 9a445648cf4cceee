-- Which bytes are the table of a number, and which items it has (ACPI 6.5, 5.2.6 and 5.2.11).
use Rattle.std.specs.Prelude.{◌≡◌, ◌≤◌, ℕ, zero, suc, List, take, drop, codes}
use Rattle.acpi_table.specs.Tables.{IsTable}
use Rattle.acpi_tree.specs.Tree.{ItemTrees}
use Rattle.acpi_terms.specs.Spelling.{SpellsItems, items_height}

-- the signature of a table by its number: DSDT first, and then SSDT (5.2.11)
abbrev pub signature_of : ℕ → List ℕ
signature_of zero = codes "DSDT"
signature_of (suc k) = codes "SSDT"

-- the bytes are one whole table with the signature of its number
pub record IsNumbered (number : ℕ) (bytes : List ℕ) : Type 0 where
  pub table : IsTable bytes
  pub signed : take 4 bytes ≡ signature_of number

-- the code of a table: what follows its header
abbrev pub code_of : List ℕ → List ℕ
code_of bytes = drop 36 bytes

-- .. and its code spells the items, within that many levels
pub record IsTableOf (depth number : ℕ) (bytes : List ℕ) (is : ItemTrees) : Type 0 where
  pub numbered : IsNumbered number bytes
  pub spelled : SpellsItems is (code_of bytes)
  pub height : items_height is ≤ depth
