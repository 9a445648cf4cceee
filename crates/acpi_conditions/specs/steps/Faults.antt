-- Why nothing was placed, as the code says it (ACPI 6.5, 5.3).
use Rattle.std.specs.Prelude.{◌≡◌, Result, Err}
use Rattle.acpi_conditions.specs.declared.placing.PlacingFault.{PlacingFault}
use Rattle.acpi_conditions.specs.declared.placing.PlacingFault.TheVariants.{Refused, Memory}
use Rattle.acpi_conditions.specs.Entries.{Path, Why}
use Rattle.acpi_conditions.specs.EntryForms.{why_of}

-- a refusal is the outcome's; an allocation failure says nothing of it
abbrev pub IsFaultOf : PlacingFault → Result Path Why → Type 0
IsFaultOf (Refused reason) outcome = outcome ≡ Err (why_of reason)
IsFaultOf Memory outcome = Unit {0}
