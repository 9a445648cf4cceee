-- The bytes that spell the parts of code (ACPI 6.5, 20.2). A part may have several spellings, since a package
-- length and a name may be longer than needed.
use Rattle.std.specs.Prelude.{◌≡◌, ◌<◌, ◌+◌, ℕ, true, List, [], ◌∷◌, ◌++◌, length, slice_index}
use Rattle.std.specs.List.{AllByRecursion}
use Rattle.byteorder.specs.Endian.{little_number}
use Rattle.acpi_name.specs.Names.{NameParts, Segment, is_segment}
use Rattle.acpi_name.specs.Spelling.{SpellsName}
use Rattle.acpi_table.specs.PkgLength.{SpellsPkgLength}
use Rattle.acpi_tree.specs.declared.tree.Int.{Int}
use Rattle.acpi_tree.specs.declared.tree.Int.TheVariants.{Zero, One, Ones, Revision, Byte, Word, DWord, QWord}
use Rattle.acpi_code.specs.Opcodes.{is_name_start}

-- ---- numbers and constants

-- ByteData := 0x00 - 0xFF (20.2.3)
abbrev pub SpellsByte : ℕ → List ℕ → Type 0
SpellsByte n bytes = bytes ≡ n ∷ []

-- WordData := ByteData[0:7] ByteData[8:15], DWordData := WordData[0:15] WordData[16:31],
-- QWordData := DWordData[0:31] DWordData[32:63]: k bytes, the lowest first (20.2.3)
abbrev pub SpellsNumber : ℕ → ℕ → List ℕ → Type 0
SpellsNumber k n bytes = (length bytes ≡ k) × (little_number k bytes ≡ n)

-- ConstObj := ZeroOp | OneOp | OnesOp, and ByteConst, WordConst, DWordConst, QWordConst, RevisionOp (20.2.3)
abbrev pub SpellsInt : Int → List ℕ → Type 0
-- ZeroOp := 0x00
SpellsInt Zero bytes = bytes ≡ 0x00 ∷ []
-- OneOp := 0x01
SpellsInt One bytes = bytes ≡ 0x01 ∷ []
-- OnesOp := 0xFF
SpellsInt Ones bytes = bytes ≡ 0xFF ∷ []
-- RevisionOp := ExtOpPrefix 0x30, where ExtOpPrefix := 0x5B
SpellsInt Revision bytes = bytes ≡ 0x5B ∷ 0x30 ∷ []
-- ByteConst := BytePrefix ByteData, where BytePrefix := 0x0A
SpellsInt (Byte n) bytes = bytes ≡ 0x0A ∷ n ∷ []
-- WordConst := WordPrefix WordData, where WordPrefix := 0x0B
SpellsInt (Word n) bytes = (b : List ℕ) × SpellsNumber 2 n b × (bytes ≡ 0x0B ∷ b)
-- DWordConst := DWordPrefix DWordData, where DWordPrefix := 0x0C
SpellsInt (DWord n) bytes = (b : List ℕ) × SpellsNumber 4 n b × (bytes ≡ 0x0C ∷ b)
-- QWordConst := QWordPrefix QWordData, where QWordPrefix := 0x0E
SpellsInt (QWord n) bytes = (b : List ℕ) × SpellsNumber 8 n b × (bytes ≡ 0x0E ∷ b)

-- ---- names and strings

-- A NameString in the place of a term (20.2.2): it does not begin with the byte 00, which is ZeroOp there.
abbrev pub SpellsTermName : NameParts → List ℕ → Type 0
SpellsTermName n bytes = SpellsName n bytes × (is_name_start (slice_index bytes 0) ≡ true)

-- NameSeg := <LeadNameChar NameChar NameChar NameChar> (20.2.2)
abbrev pub SpellsSegment : Segment → List ℕ → Type 0
SpellsSegment s bytes = (is_segment s ≡ true) × (bytes ≡ s)

-- AsciiChar := 0x01 - 0x7F (20.2.3)
abbrev pub IsText : ℕ → Type 0
IsText b = (0 < b) × (b < 0x80)

-- AsciiCharList := Nothing | <AsciiChar AsciiCharList>, and behind it NullChar := 0x00 (20.2.3)
abbrev pub SpellsText : List ℕ → List ℕ → Type 0
SpellsText text bytes = AllByRecursion IsText text × (bytes ≡ text ++ 0x00 ∷ [])

-- ---- lists and packages

-- trees of a list one after another
abbrev pub SpellsEach : {A : Type 0} → (A → List ℕ → Type 0) → List A → List ℕ → Type 0
SpellsEach Spells [] bytes = bytes ≡ []
SpellsEach Spells (x ∷ xs) bytes =
    (a : List ℕ) × (b : List ℕ) × Spells x a × SpellsEach Spells xs b × (bytes ≡ a ++ b)

-- An opcode, a package length and the content. The length counts its own bytes and the content (20.2.4).
pub record Packs (opcode content bytes : List ℕ) : Type 0 where
  pub len : List ℕ
  pub spells_len : SpellsPkgLength (length len + length content) len
  pub whole : bytes ≡ opcode ++ (len ++ content)
