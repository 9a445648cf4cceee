-- What stands at a path, as the code says it (ACPI 6.5, 5.3).
use Rattle.std.specs.Prelude.{Bool, true, false}
use Rattle.acpi_conditions.specs.declared.statuses.Presence.{Presence}
use Rattle.acpi_conditions.specs.declared.statuses.Presence.TheVariants.{Nothing, Scope}

abbrev pub is_something : Presence → Bool
is_something Nothing = false
is_something _ = true

abbrev pub is_a_scope : Presence → Bool
is_a_scope Scope = true
is_a_scope _ = false
