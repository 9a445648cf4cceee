-- Paths of objects (ACPI 6.5, 5.3).
use Rattle.std.specs.Prelude.{ℕ, ◌+◌, ◌-◌, nat_eq, Bool, ◌&&◌, List, length, codes, slice_get, unwrap_or}
use Rattle.std.specs.List.{starts_with}
use Rattle.std.specs.Cmp.Lexicographic.{pointwise}

-- the last segment; four blanks for the root
abbrev pub last_name : List (List ℕ) → List ℕ
last_name path = unwrap_or (slice_get path (length path - 1)) (codes "    ")

-- whether a path is that of a scope, or stands below it
abbrev pub is_within : List (List ℕ) → List (List ℕ) → Bool
is_within path scope = starts_with (pointwise nat_eq) path scope

-- whether a path stands directly below that of a scope
abbrev pub is_directly_in : List (List ℕ) → List (List ℕ) → Bool
is_directly_in path scope = nat_eq (length path) (length scope + 1) && is_within path scope
