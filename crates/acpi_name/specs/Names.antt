-- Segments and names as contracts see them (ACPI 6.5, 5.3 and 20.2.2).
use Rattle.std.specs.Prelude.{◌≡◌, ℕ, ◌<◌, Bool, true, false, ◌&&◌, ◌||◌, not, nat_le, nat_eq, cond, Option, Some, None, List, [], ◌∷◌, length, IsTrue}
use Rattle.std.specs.List.{list_all}

-- a NameSeg, by its bytes (20.2.2)
abbrev pub Segment : Type 0
Segment = List ℕ

-- LeadNameChar := 'A'-'Z' | '_' (20.2.2)
abbrev pub is_lead_char : ℕ → Bool
is_lead_char b = (nat_le 0x41 b && nat_le b 0x5A) || nat_eq b 0x5F

-- NameChar := DigitChar | LeadNameChar, where DigitChar := '0'-'9' (20.2.2)
abbrev pub is_name_char : ℕ → Bool
is_name_char b = is_lead_char b || (nat_le 0x30 b && nat_le b 0x39)

-- NameSeg := <LeadNameChar NameChar NameChar NameChar>, four bytes (20.2.2)
abbrev pub is_segment : List ℕ → Bool
is_segment (a ∷ b ∷ c ∷ d ∷ []) =
    is_lead_char a && is_name_char b && is_name_char c && is_name_char d
is_segment _ = false

-- whether what stands there, up to four bytes, may begin a NameSeg (20.2.2)
abbrev pub is_segment_front : List ℕ → Bool
is_segment_front [] = true
is_segment_front (a ∷ []) = is_lead_char a
is_segment_front (a ∷ b ∷ []) = is_lead_char a && is_name_char b
is_segment_front (a ∷ b ∷ c ∷ []) = is_lead_char a && is_name_char b && is_name_char c
is_segment_front (a ∷ b ∷ c ∷ d ∷ rest) =
    is_lead_char a && is_name_char b && is_name_char c && is_name_char d

-- a segment each
abbrev pub AreSegments : List Segment → Type 0
AreSegments segments = IsTrue (list_all is_segment segments)

-- what a NameString says: whether it begins at the root, how many parents it goes up, and its segments (20.2.2)
pub record NameParts : Type 0 where
  pub rooted : Bool
  pub parents : ℕ
  pub segments : List Segment

-- the name that the byte 00 spells, which is no term (20.2.2 NullName)
abbrev pub is_null_name : NameParts → Bool
is_null_name n = not n.rooted && nat_eq n.parents 0 && nat_eq (length n.segments) 0

-- the parts of a name that has a spelling: a rooted one has no parents, and a byte counts the segments (20.2.2);
-- that a name goes up at most 255 parents is a limit of this loader
pub record IsName (n : NameParts) : Type 0 where
  pub are_segments : AreSegments n.segments
  pub few_segments : length n.segments < 256
  pub few_parents : n.parents < 256
  pub no_parents : IsTrue n.rooted → n.parents ≡ 0

-- the one segment of a list of one
abbrev pub only_segment : List Segment → Option Segment
only_segment (g ∷ []) = Some g
only_segment _ = None

-- the segment of a plain name: not rooted, no parents, one segment; such a name is searched upwards (5.3)
abbrev pub plain_segment : NameParts → Option Segment
plain_segment n = cond n.rooted None (cond (nat_eq n.parents 0) (only_segment n.segments) None)
