-- The paths that searches miss, one search after another.
use Rattle.std.specs.Prelude.{List, [], ◌∷◌, ◌++◌}
use Rattle.std.specs.List.{filter}
use Rattle.acpi_name.specs.Names.{Segment, NameParts}
use Rattle.acpi_space.specs.Lookups.{is_defined_in}
use Rattle.acpi_space.specs.Search.{missed}
use Rattle.acpi_space.specs.Wanted.{Wants}
use Rattle.acpi_pass.specs.Namespace.{Namespace}

-- what the searches of some names miss, of the paths that are asked for
abbrev pub misses_from : Wants → Namespace → List Segment → List NameParts → List (List Segment)
misses_from w objects scope [] = []
misses_from w objects scope (n ∷ ns) =
    filter w (missed (is_defined_in objects) scope n) ++ misses_from w objects scope ns
