-- The bytes that spell a name (ACPI 6.5, 20.2.2 NameString).
use Rattle.std.specs.Prelude.{◌≡◌, ◌⊎◌, ℕ, ◌<◌, ◌≤◌, Bool, true, false, List, [], ◌∷◌, ◌++◌, length, take, replicate}
use Rattle.acpi_name.specs.Names.{Segment, NameParts, IsName}

-- the segments one after the other
abbrev pub segment_bytes : List Segment → List ℕ
segment_bytes [] = []
segment_bytes (s ∷ ss) = s ++ segment_bytes ss

-- the bytes before a name's segments: RootChar := 0x5C, or PrefixPath := Nothing | <'^' PrefixPath> with a 5E for each
-- parent (20.2.2)
abbrev pub prefix_of : Bool → ℕ → List ℕ
prefix_of true parents = 0x5C ∷ []
prefix_of false parents = replicate parents 0x5E

-- NamePath := NameSeg | DualNamePath | MultiNamePath | NullName, where NullName := 0x00,
-- DualNamePath := DualNamePrefix NameSeg NameSeg, DualNamePrefix := 0x2E,
-- MultiNamePath := MultiNamePrefix SegCount NameSeg(SegCount) and MultiNamePrefix := 0x2F;
-- one segment and two have two spellings (20.2.2)
abbrev pub SpellsPath : List Segment → List ℕ → Type 0
SpellsPath ss bytes =
    ((length ss ≡ 0) × (bytes ≡ 0x00 ∷ []))
    ⊎ ((length ss ≡ 1) × (bytes ≡ segment_bytes ss))
    ⊎ ((length ss ≡ 2) × (bytes ≡ 0x2E ∷ segment_bytes ss))
    ⊎ ((0 < length ss) × (bytes ≡ 0x2F ∷ length ss ∷ segment_bytes ss))

-- NameString := <RootChar NamePath> | <PrefixPath NamePath>: the bytes spell the name (20.2.2)
pub record SpellsName (n : NameParts) (bytes : List ℕ) : Type 0 where
  pub is_name : IsName n
  pub path : List ℕ
  pub spells_path : SpellsPath n.segments path
  pub whole : bytes ≡ prefix_of n.rooted n.parents ++ path

-- the first `count` bytes spell the name
pub record BeginsWithName (n : NameParts) (count : ℕ) (bytes : List ℕ) : Type 0 where
  pub within : count ≤ length bytes
  pub spells : SpellsName n (take count bytes)

-- some name is spelled at the front
abbrev pub HasName : List ℕ → Type 0
HasName bytes = (n : NameParts) × (count : ℕ) × BeginsWithName n count bytes

-- the bytes are a proper beginning of a name's spelling
pub record IsCutName (bytes : List ℕ) : Type 0 where
  pub more : List ℕ
  pub missing : 0 < length more
  pub name : NameParts
  pub spells : SpellsName name (bytes ++ more)

-- 2F 00 stands behind a prefix
pub record HasZeroCount (bytes : List ℕ) : Type 0 where
  pub rooted : Bool
  pub parents : ℕ
  pub few_parents : parents < 256
  pub rest : List ℕ
  pub whole : bytes ≡ prefix_of rooted parents ++ (0x2F ∷ 0x00 ∷ rest)

-- 256 bytes 5E stand at the front
pub record HasTooManyUps (bytes : List ℕ) : Type 0 where
  pub rest : List ℕ
  pub whole : bytes ≡ replicate 256 0x5E ++ rest

-- no name stands at the front, and it is for none of the other reasons
pub record HasBadChar (bytes : List ℕ) : Type 0 where
  pub no_name : ¬ HasName bytes
  pub not_cut : ¬ IsCutName bytes
  pub no_zero_count : ¬ HasZeroCount bytes
  pub few_ups : ¬ HasTooManyUps bytes

-- the shortest form for the segments: 00 for none, the segment, 2E for two, 2F from three on
abbrev pub path_bytes : List Segment → List ℕ
path_bytes [] = 0 ∷ []
path_bytes (s ∷ []) = s
path_bytes (s ∷ t ∷ []) = 0x2E ∷ (s ++ t)
path_bytes (s ∷ t ∷ u ∷ ss) = 0x2F ∷ length (s ∷ t ∷ u ∷ ss) ∷ segment_bytes (s ∷ t ∷ u ∷ ss)

-- the shortest spelling of a name
abbrev pub name_bytes : NameParts → List ℕ
name_bytes n = prefix_of n.rooted n.parents ++ path_bytes n.segments
