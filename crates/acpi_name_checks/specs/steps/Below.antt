-- The tries of a plain name.
use Rattle.std.specs.Prelude.{List, [], ◌∷◌, ◌++◌, map}
use Rattle.acpi_name.specs.Names.{Segment}
use Rattle.acpi_space.specs.Search.{beginnings}
use Rattle.acpi_conditions.specs.Entries.{Path}

-- the segment below each beginning of a path, the innermost first
abbrev pub below : Path → Segment → List Path
below p g = map (λ q. q ++ g ∷ []) (beginnings p)
