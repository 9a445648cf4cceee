-- Where a walk over nodes stands (ACPI 6.5, 5.3).
use Rattle.std.specs.Prelude.{List, ◌∷◌, map}
use Rattle.acpi_conditions.specs.Entries.{Path}
use Rattle.acpi_conditions.specs.Walk.{Walk}
use Rattle.acpi_conditions.specs.Met.{Meeting}

-- its scope, and those of the packages around
abbrev pub scopes_around : Walk → List Path
scopes_around w = w.around.scope ∷ map (λ p. p.around.scope) w.packages

-- what control may have met on its way here
abbrev pub meeting : Walk → Meeting
meeting w = record { entries = w.entries; certain = w.known.certain; way = w.around.way }
