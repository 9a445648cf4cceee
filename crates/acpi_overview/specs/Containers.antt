-- Objects below which others stand (ACPI 6.5, 5.3).
use Rattle.std.specs.Prelude.{Bool, true, false}
use Rattle.acpi_kinds.specs.declared.kind.ObjectKind.{ObjectKind}
use Rattle.acpi_kinds.specs.declared.kind.ObjectKind.TheVariants as objects

-- The root, scopes, devices, processors, power resources and thermal zones.
abbrev pub is_container : ObjectKind → Bool
is_container objects.Root = true
is_container objects.Scope = true
is_container objects.Device = true
is_container (objects.Processor id block length) = true
is_container (objects.Power level order) = true
is_container objects.Thermal = true
is_container _ = false
