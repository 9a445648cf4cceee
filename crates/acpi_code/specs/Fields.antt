-- The bytes that spell the elements of a field list (ACPI 6.5, 20.2.5.2 FieldElement).
use Rattle.std.specs.Prelude.{◌≡◌, ℕ, List, [], ◌∷◌, ◌++◌}
use Rattle.acpi_name.specs.Spelling.{SpellsName}
use Rattle.acpi_table.specs.PkgLength.{SpellsPkgLength}
use Rattle.acpi_tree.specs.Tree.{FieldTree, unit, reserved, access, connect_name, connect_buffer, extended}
use Rattle.acpi_code.specs.Spelling.{SpellsInt, SpellsSegment, SpellsEach, Packs}

-- FieldElement := NamedField | ReservedField | AccessField | ExtendedAccessField | ConnectField; the size of the buffer
-- of a ConnectField is a constant
abbrev pub SpellsField : FieldTree → List ℕ → Type 0
-- NamedField := NameSeg PkgLength
SpellsField (unit g bits) bytes =
    (a : List ℕ) × (b : List ℕ) × SpellsSegment g a × SpellsPkgLength bits b × (bytes ≡ a ++ b)
-- ReservedField := 0x00 PkgLength
SpellsField (reserved bits) bytes = (b : List ℕ) × SpellsPkgLength bits b × (bytes ≡ 0x00 ∷ b)
-- AccessField := 0x01 AccessType AccessAttrib
SpellsField (access kind attribute) bytes = bytes ≡ 0x01 ∷ kind ∷ attribute ∷ []
-- ConnectField := <0x02 NameString> | <0x02 BufferData>
SpellsField (connect_name n) bytes = (a : List ℕ) × SpellsName n a × (bytes ≡ 0x02 ∷ a)
-- BufferData is a DefBuffer, whose BufferOp := 0x11
SpellsField (connect_buffer size content) bytes =
    (a : List ℕ) × SpellsInt size a × Packs (0x02 ∷ 0x11 ∷ []) (a ++ content) bytes
-- ExtendedAccessField := 0x03 AccessType ExtendedAccessAttrib AccessLength
SpellsField (extended kind attribute len) bytes = bytes ≡ 0x03 ∷ kind ∷ attribute ∷ len ∷ []

-- FieldList := Nothing | <FieldElement FieldList>
abbrev pub SpellsFields : List FieldTree → List ℕ → Type 0
SpellsFields es bytes = SpellsEach SpellsField es bytes
