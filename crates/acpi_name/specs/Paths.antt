-- Paths from the root, their order, and the place of a name in a scope (ACPI 6.5, 5.3).
use Rattle.std.specs.Prelude.{◌-◌, cond, nat_le, List, [], ◌∷◌, ◌++◌, length, take, Option, Some, None}
use Rattle.std.specs.declared.cmp.Ordering.{Ordering}
use Rattle.std.specs.Ordering.{nat_cmp}
use Rattle.std.specs.Cmp.Lexicographic.{slice_cmp}
use Rattle.acpi_name.specs.Names.{Segment, NameParts}

-- segments by their bytes
abbrev pub segment_cmp : Segment → Segment → Ordering
segment_cmp = slice_cmp nat_cmp

-- paths by their segments
abbrev pub path_cmp : List Segment → List Segment → Ordering
path_cmp = slice_cmp segment_cmp

-- the path that the name has in the scope, unless it goes above the root (5.3)
abbrev pub place_of : List Segment → NameParts → Option (List Segment)
place_of s n = cond n.rooted (Some n.segments)
    (cond (nat_le n.parents (length s)) (Some (take (length s - n.parents) s ++ n.segments)) None)

-- the path without its last segment; the root stays
abbrev pub parent_of : {A : Type 0} → List A → List A
parent_of [] = []
parent_of (x ∷ []) = []
parent_of (x ∷ y ∷ ys) = x ∷ parent_of (y ∷ ys)
