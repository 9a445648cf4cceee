-- Reading the text of a path, part by part.
use Rattle.std.specs.Prelude.{ℕ, ◌==◌, if◌then◌else◌, Option, Some, None, List, [], ◌∷◌}
use Rattle.std.specs.List.{slice_split}
use Rattle.acpi_name.specs.Names.{Segment, is_segment}

-- the bytes, if they are a segment
abbrev pub checked_segment : List ℕ → Option Segment
checked_segment g = if is_segment g then Some g else None

-- the segment that is typed so
abbrev pub typed_segment : List ℕ → Option Segment
typed_segment (a ∷ []) = checked_segment (a ∷ 0x5F ∷ 0x5F ∷ 0x5F ∷ [])
typed_segment (a ∷ b ∷ []) = checked_segment (a ∷ b ∷ 0x5F ∷ 0x5F ∷ [])
typed_segment (a ∷ b ∷ c ∷ []) = checked_segment (a ∷ b ∷ c ∷ 0x5F ∷ [])
typed_segment (a ∷ b ∷ c ∷ d ∷ []) = checked_segment (a ∷ b ∷ c ∷ d ∷ [])
typed_segment _ = None

-- a segment before others
abbrev pub before_segments : Option Segment → Option (List Segment) → Option (List Segment)
before_segments (Some g) (Some gs) = Some (g ∷ gs)
before_segments _ _ = None

-- the segments that are typed so, if each is
abbrev pub typed_segments : List (List ℕ) → Option (List Segment)
typed_segments [] = Some []
typed_segments (typed ∷ more) = before_segments (typed_segment typed) (typed_segments more)

-- the parts between the dots
abbrev pub dotted_parts : List ℕ → List (List ℕ)
dotted_parts text = slice_split (λ b. b == 0x2E) text

-- the parts of what stands behind a dot, if a dot was there
abbrev pub parts_behind : Option (List ℕ) → List (List ℕ)
parts_behind None = []
parts_behind (Some rest) = dotted_parts rest

-- the path that is typed so
abbrev pub path_of_text : List ℕ → Option (List Segment)
path_of_text [] = None
path_of_text (b ∷ []) = if b == 0x5C then Some [] else None
path_of_text (b ∷ c ∷ text) = if b == 0x5C then typed_segments (dotted_parts (c ∷ text)) else None
