-- Sources of bytes: what reading takes from them.
use Rattle.std.specs.Prelude.{◌≡◌, ℕ, List, ◌++◌, Option}
use Rattle.std.specs.Io.KnownBytes.{Consumes}
use Rattle.acpi_table.specs.declared.streams.ReadFault.{ReadFault}
use Rattle.acpi_table.specs.declared.streams.ReadFault.TheVariants.{Table, Device, Memory}

-- A fault of the device or of memory.
abbrev pub IsNoTableFault : ReadFault → Type 0
IsNoTableFault (Table fault) = ⊥
IsNoTableFault Device = Unit {0}
IsNoTableFault Memory = Unit {0}

-- Bytes move from the front of what was to come to the end of what is there.
abbrev pub TakesOnto : Option (List ℕ) → Option (List ℕ) → List ℕ → List ℕ → Type 0
TakesOnto coming coming' old new =
    (bytes : List ℕ) × (new ≡ old ++ bytes) × Consumes coming coming' bytes
