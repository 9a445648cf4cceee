-- Lists that are not empty.
use Rattle.std.proofs.Common.{◌≡◌, ℕ, List, [], ◌∷◌, map, Some, refl, ◌<◌, length, arith}
use Rattle.acpi_conditions.specs.Entries.{Path}
use Rattle.acpi_use_list.specs.Uses.{some_or_none}

-- some paths, each by itself
pub some_paths : (ps : List Path) → 0 < length ps → some_or_none ps ≡ map Some ps
some_paths [] h = absurd (omega arith)
some_paths (p ∷ ps) h = refl
