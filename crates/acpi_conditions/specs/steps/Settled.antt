-- What an entry settles, as the code has it (ACPI 6.5, 5.3).
use Rattle.std.specs.Prelude.{true, false, List, [], ◌∷◌, Option, Some, None}
use Rattle.acpi_conditions.specs.Entries.{Path}
use Rattle.acpi_conditions.specs.Known.{Certain}
use Rattle.acpi_conditions.specs.declared.statuses.Presence.{Presence}
use Rattle.acpi_conditions.specs.declared.statuses.Presence.TheVariants.{Nothing, Object, Scope}

-- what is certain at a path where this stands
abbrev pub certain_at : Path → Presence → List Certain
certain_at p Nothing = []
certain_at p Object = record { path = p; is_scope = false } ∷ []
certain_at p Scope = record { path = p; is_scope = true } ∷ []

-- .. if there is a path
abbrev pub certain_there : Presence → Option Path → List Certain
certain_there presence None = []
certain_there presence (Some p) = certain_at p presence
