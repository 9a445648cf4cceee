-- Laws on names and texts.
use Rattle.std.specs.Prelude.{◌≡◌, ℕ, List, ◌++◌}
use Rattle.acpi_name.specs.Names.{Segment, AreSegments, NameParts, IsName}
use Rattle.acpi_name.specs.Spelling.{SpellsName, name_bytes}
use Rattle.acpi_name.specs.Text.{path_text, SpellsPathText}

-- no spelling begins another: bytes that begin with two spellings begin with one, of one name
abbrev pub NoSpellingBeginsAnother : Type 0
NoSpellingBeginsAnother = (m n : NameParts) (a b more rest : List ℕ) → SpellsName m a
    → SpellsName n b → a ++ more ≡ b ++ rest → (m ≡ n) × (a ≡ b)

-- each name's shortest spelling spells it
abbrev pub ShortestSpells : Type 0
ShortestSpells = (n : NameParts) → IsName n → SpellsName n (name_bytes n)

-- what is printed of a path may be typed for it
abbrev pub PrintedPathMayBeTyped : Type 0
PrintedPathMayBeTyped = (p : List Segment) → AreSegments p → SpellsPathText p (path_text p)
