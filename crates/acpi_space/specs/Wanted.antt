-- Which paths are asked for.
use Rattle.std.specs.Prelude.{Bool, List}
use Rattle.acpi_name.specs.Names.{Segment}
use Rattle.acpi_space.specs.Spaces.{PathMap, is_defined}
use Rattle.acpi_space.specs.declared.wanted.PathsOf.{PathsOf}

-- which paths are asked for
abbrev pub Wants : Type 0
Wants = List Segment → Bool

-- the paths that a space has
abbrev pub wants_of : {W T : Type 0} → (T → PathMap W) → PathsOf W T → Wants
wants_of contents paths = is_defined (contents paths.space.now)
