-- The parts of some data.
use Rattle.std.proofs.Common.{◌≡◌, ℕ, [], ◌∷◌, ◌++◌, codes, refl, false}
use Rattle.acpi_name.specs.Names.{NameParts}
use Rattle.acpi_tree.specs.Tree.{DataTree, int, str, buffer, pkg, var_pkg, of_data, of_name, no_elems, elem}
use Rattle.acpi_tree.specs.declared.tree.Int.TheVariants.{Zero, Ones, Byte, Word}
use Rattle.acpins_records.specs.declared.parts.PartRecord.{PartRecord}
use Rattle.acpins_records.specs.Parts.{parts_in, data_bytes, data_parts}

-- the numbers of a part, in the order of its fields
abbrev numbers : (kind form value byte bytes behind : ℕ) → PartRecord
numbers kind form value byte bytes behind = record { kind = kind; form = form; value = value; byte = byte; bytes = bytes; behind = behind }

-- Package(2){0x05, "AB"}
abbrev pair : DataTree
pair = pkg 2 (elem (of_data (int (Byte 5))) (elem (of_data (str (codes "AB"))) no_elems))

pair-parts : data_parts 0 0 pair ≡ numbers 3 4 2 0 0 3 ∷ numbers 0 4 5 0 0 2 ∷ numbers 1 0 0 0 2 3 ∷ []
pair-parts = refl

pair-bytes : data_bytes pair ≡ 0x41 ∷ 0x42 ∷ []
pair-bytes = refl

-- ^FOO_.BAR_
abbrev sibling : NameParts
sibling = record { rooted = false; parents = 1; segments = codes "FOO_" ∷ codes "BAR_" ∷ [] }

-- Package(4){VarPackage(0x0002){Zero, ^FOO_.BAR_}, Buffer(0x04){DE AD}, Ones}
abbrev nested : DataTree
nested = pkg 4
    (elem (of_data (var_pkg (Word 2) (elem (of_data (int Zero)) (elem (of_name sibling) no_elems))))
    (elem (of_data (buffer (Byte 4) (0xDE ∷ 0xAD ∷ [])))
    (elem (of_data (int Ones)) no_elems)))

nested-count : parts_in nested ≡ 6
nested-count = refl

-- .. where the first part stands at place 7, and the first byte at place 100
nested-parts : data_parts 7 100 nested ≡
    numbers 3 4 4 0 0 13
    ∷ numbers 4 5 2 0 0 11
    ∷ numbers 0 0 0 0 0 10
    ∷ numbers 5 0 0 100 10 11
    ∷ numbers 2 4 4 110 2 12
    ∷ numbers 0 2 0xFFFF_FFFF_FFFF_FFFF 0 0 13
    ∷ []
nested-parts = refl

nested-bytes : data_bytes nested ≡ codes "^FOO_.BAR_" ++ 0xDE ∷ 0xAD ∷ []
nested-bytes = refl
