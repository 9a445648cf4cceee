-- What flags and numbers of kinds stand for (ACPI 6.5, 6.4).
use Rattle.std.specs.Prelude.{ℕ, ◌/◌, ◌%◌, Bool, true, false, ◌==◌, if◌then◌else◌, Option, Some, None}
use Rattle.acpi_resources.specs.declared.meaning.InterruptMode.{InterruptMode}
use Rattle.acpi_resources.specs.declared.meaning.AddressKind.{AddressKind}
use Rattle.acpi_resources.specs.declared.meaning.AddressKind.TheVariants as address
use Rattle.acpi_resources.specs.declared.meaning.BusKind.{BusKind}
use Rattle.acpi_resources.specs.declared.meaning.BusKind.TheVariants as bus
use Rattle.acpi_resources.specs.declared.meaning.ItemKind.{ItemKind}
use Rattle.acpi_resources.specs.declared.meaning.ItemKind.TheVariants as item

-- the bit of this weight is set
abbrev pub has_bit : (weight flags : ℕ) → Bool
has_bit weight flags = (flags / weight) % 2 == 1

-- Mode 1, polarity 8, sharing 16 and wake capability 32; without flags the lines are edge triggered, active high
-- and exclusive (6.4.2.1).
abbrev pub irq_mode : Option ℕ → InterruptMode
irq_mode None = record { edge = true; low = false; shared = false; wake = false }
irq_mode (Some f) =
    record { edge = has_bit 1 f; low = has_bit 8 f; shared = has_bit 16 f; wake = has_bit 32 f }

-- mode 2, polarity 4, sharing 8 and wake capability 16 (6.4.3.6)
abbrev pub interrupt_mode : ℕ → InterruptMode
interrupt_mode f =
    record { edge = has_bit 2 f; low = has_bit 4 f; shared = has_bit 8 f; wake = has_bit 16 f }

-- the resource type (6.4.3.5)
abbrev pub address_kind : ℕ → AddressKind
address_kind n =
    if n == 0 then address.Memory else if n == 1 then address.Io else
    if n == 2 then address.Bus else address.Other n

-- the serial bus type (6.4.3.8.2)
abbrev pub bus_kind : ℕ → BusKind
bus_kind n =
    if n == 1 then bus.I2c else if n == 2 then bus.Spi else if n == 3 then bus.Uart else
    if n == 4 then bus.Csi2 else bus.Other n

-- the tags of 6.4.3.9 to 6.4.3.14
abbrev pub item_kind : ℕ → ItemKind
item_kind t =
    if t == 0x8D then item.PinFunction else if t == 0x8F then item.PinConfiguration else
    if t == 0x90 then item.PinGroup else if t == 0x91 then item.PinGroupFunction else
    if t == 0x92 then item.PinGroupConfiguration else if t == 0x93 then item.ClockInput else
    item.Other
