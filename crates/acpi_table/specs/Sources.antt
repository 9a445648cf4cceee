-- Sources of bytes: how often reading them failed.
use Rattle.std.specs.Prelude.{◌≡◌, ◌+◌, ◌-◌, ◌^◌, ℕ, min, Result, Ok, Err}
use Rattle.acpi_table.specs.declared.streams.ReadFault.{ReadFault}
use Rattle.acpi_table.specs.declared.streams.ReadFault.TheVariants.{Table, Device, Memory}

-- One failure more. The number stands still at its last value.
abbrev pub one_more : ℕ → ℕ
one_more failures = min (failures + 1) (2 ^ 64 - 1)

-- A device's fault is one failure more, and any other answer leaves their number.
abbrev pub CountsFailures : {A : Type 0} → Result A ReadFault → ℕ → ℕ → Type 0
CountsFailures (Ok x) old new = new ≡ old
CountsFailures (Err (Table fault)) old new = new ≡ old
CountsFailures (Err Device) old new = new ≡ one_more old
CountsFailures (Err Memory) old new = new ≡ old
