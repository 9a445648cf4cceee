-- The tries of a search, one after another (ACPI 6.5, 5.3).
use Rattle.std.specs.Prelude.{◌||◌, cond, List, [], ◌∷◌, ◌++◌, map}
use Rattle.acpi_name.specs.Names.{Segment}
use Rattle.acpi_space.specs.Search.{beginnings}
use Rattle.acpi_conditions.specs.Entries.{Path}
use Rattle.acpi_conditions.specs.Known.{Known, is_certain, is_possible}

-- the segment below each beginning of a path, the innermost first
abbrev pub below : Path → Segment → List Path
below p g = map (λ q. q ++ g ∷ []) (beginnings p)

-- the path, where something may stand there
abbrev pub candidate_at : Known → Path → List Path
candidate_at k p = cond (is_certain k p || is_possible k p) (p ∷ []) []
