-- What a descriptor's bytes are (ACPI 6.5, 6.4).
use Rattle.std.specs.Prelude.{◌≡◌, ◌+◌, ◌*◌, ℕ, Bool, true, false, List, [], ◌∷◌, ◌++◌, length, slice_index, nat_lt, nat_le, is_none, not, ◌==◌, ◌&&◌, if◌then◌else◌, Option, Some, None}
use Rattle.std.specs.List.{flat_map}
use Rattle.std.specs.Int.{w16, w32, w64, to_le_bytes}
use Rattle.acpi_resources.specs.Items.{item_bytes, IsItem}
use Rattle.acpi_resources.specs.declared.descriptor.Descriptor.{Descriptor}
use Rattle.acpi_resources.specs.declared.descriptor.Descriptor.TheVariants as d
use Rattle.acpi_resources.specs.declared.descriptor.AddressWidth.{AddressWidth}
use Rattle.acpi_resources.specs.declared.descriptor.AddressWidth.TheVariants.{Word, DWord, QWord}

-- numbers of two, four and eight bytes, the lowest byte first
abbrev pub words : List ℕ → List ℕ
words ns = flat_map (to_le_bytes w16) ns

abbrev pub dwords : List ℕ → List ℕ
dwords ns = flat_map (to_le_bytes w32) ns

abbrev pub qwords : List ℕ → List ℕ
qwords ns = flat_map (to_le_bytes w64) ns

-- a number of an address range
abbrev pub number_bytes : AddressWidth → ℕ → List ℕ
number_bytes Word n = to_le_bytes w16 n
number_bytes DWord n = to_le_bytes w32 n
number_bytes QWord n = to_le_bytes w64 n

-- the tag of an address range (6.4.3.5.1 to 6.4.3.5.3)
abbrev pub address_tag : AddressWidth → ℕ
address_tag Word = 0x88
address_tag DWord = 0x87
address_tag QWord = 0x8A

-- the first byte (6.4.2, Table 6.27 ff.; 6.4.3)
abbrev pub tag_of : Descriptor → ℕ
tag_of (d.Irq i) = if is_none i.flags then 0x22 else 0x23
tag_of (d.Dma m) = 0x2A
tag_of (d.StartDependent p) = if is_none p then 0x30 else 0x31
tag_of d.EndDependent = 0x38
tag_of (d.Io i) = 0x47
tag_of (d.FixedIo i) = 0x4B
tag_of (d.FixedDma m) = 0x55
tag_of (d.VendorShort bytes) = 0x70 + length bytes.now
tag_of (d.EndTag sum) = 0x79
tag_of (d.Memory24 m) = 0x81
tag_of (d.VendorLong bytes) = 0x84
tag_of (d.Memory32 m) = 0x85
tag_of (d.FixedMemory32 m) = 0x86
tag_of (d.AddressSpace a) = address_tag a.width
tag_of (d.ExtendedAddressSpace a) = 0x8B
tag_of (d.ExtendedInterrupt i) = 0x89
tag_of (d.GenericRegister r) = 0x82
tag_of (d.Gpio g) = 0x8C
tag_of (d.SerialBus s) = 0x8E
tag_of (d.Other i) = i.tag

-- a byte that may be there
abbrev pub optional_byte : Option ℕ → List ℕ
optional_byte None = []
optional_byte (Some b) = b ∷ []

-- the bytes behind the tag and, in a large item, behind its length
abbrev pub body_of : Descriptor → List ℕ
-- IRQ Descriptor: mask of 16 bits, and the IRQ information where the length is 3 (6.4.2.1)
body_of (d.Irq i) = to_le_bytes w16 i.mask ++ optional_byte i.flags
-- DMA Descriptor: channel mask, flags (6.4.2.2)
body_of (d.Dma m) = m.mask ∷ m.flags ∷ []
-- Start Dependent Functions Descriptor: priority, where the length is 1 (6.4.2.3)
body_of (d.StartDependent p) = optional_byte p
-- End Dependent Functions Descriptor: nothing (6.4.2.4)
body_of d.EndDependent = []
-- I/O Port Descriptor: information, minimum and maximum base address, base alignment, range length (6.4.2.5)
body_of (d.Io i) = i.info ∷ (words (i.min ∷ i.max ∷ []) ++ i.alignment ∷ i.length ∷ [])
-- Fixed Location I/O Port Descriptor: base address, range length (6.4.2.6)
body_of (d.FixedIo i) = to_le_bytes w16 i.base ++ i.length ∷ []
-- Fixed DMA Descriptor: DMA request line, DMA channel, transfer width (6.4.2.7)
body_of (d.FixedDma m) = words (m.request ∷ m.channel ∷ []) ++ m.width ∷ []
-- Vendor-Defined Descriptor, type 0: any bytes, seven at most (6.4.2.8)
body_of (d.VendorShort bytes) = bytes.now
-- End Tag: checksum (6.4.2.9)
body_of (d.EndTag sum) = sum ∷ []
-- 24-Bit Memory Range Descriptor: information, minimum and maximum base address, base alignment, range length (6.4.3.1)
body_of (d.Memory24 m) = m.info ∷ words (m.min ∷ m.max ∷ m.alignment ∷ m.length ∷ [])
-- Vendor-Defined Descriptor, type 1: any bytes (6.4.3.2)
body_of (d.VendorLong bytes) = bytes.now
-- 32-Bit Memory Range Descriptor: information, minimum and maximum base address, base alignment, range length (6.4.3.3)
body_of (d.Memory32 m) = m.info ∷ dwords (m.min ∷ m.max ∷ m.alignment ∷ m.length ∷ [])
-- 32-Bit Fixed Memory Range Descriptor: information, base address, range length (6.4.3.4)
body_of (d.FixedMemory32 m) = m.info ∷ dwords (m.base ∷ m.length ∷ [])
-- QWord, DWord and Word Address Space Descriptors: resource type, general flags, type specific flags, granularity,
-- range minimum and maximum, translation offset, address length, resource source (6.4.3.5.1 to 6.4.3.5.3)
body_of (d.AddressSpace a) =
    a.kind ∷ a.flags ∷ a.kind_flags
    ∷ (flat_map (number_bytes a.width)
    (a.granularity ∷ a.min ∷ a.max ∷ a.translation ∷ a.length ∷ [])
    ++ a.source.now)
-- Extended Address Space Descriptor: resource type, general flags, type specific flags, revision, a reserved byte,
-- granularity, range minimum and maximum, translation offset, address length, type specific attribute (6.4.3.5.4)
body_of (d.ExtendedAddressSpace a) =
    a.kind ∷ a.flags ∷ a.kind_flags ∷ a.revision ∷ a.reserved
    ∷ qwords (a.granularity ∷ a.min ∷ a.max ∷ a.translation ∷ a.length ∷ a.attributes ∷ [])
-- Extended Interrupt Descriptor: vector flags, table length, so many interrupt numbers, resource source (6.4.3.6)
body_of (d.ExtendedInterrupt i) =
    i.flags ∷ length i.numbers.now ∷ (flat_map (λ n. n) i.numbers.now ++ i.source.now)
-- Generic Register Descriptor: address space, register bit width and offset, access size, address (6.4.3.7)
body_of (d.GenericRegister r) =
    r.space ∷ r.bit_width ∷ r.bit_offset ∷ r.access ∷ to_le_bytes w64 r.address
-- GPIO Connection Descriptor: revision, connection type, general flags, interrupt and IO flags, pin configuration,
-- output drive strength, debounce timeout, pin table offset, resource source index, resource source name offset,
-- vendor data offset and length, and what these lead to (6.4.3.8.1)
body_of (d.Gpio g) =
    g.revision ∷ g.kind ∷ (words (g.flags ∷ g.pin_flags ∷ []) ++ g.pull
    ∷ (words (g.drive ∷ g.debounce ∷ g.pins_place ∷ []) ++ g.source_index
    ∷ (words (g.source_place ∷ g.vendor_place ∷ g.vendor_length ∷ []) ++ g.tail.now)))
-- Serial Bus Connection Descriptors: revision, resource source index, bus type, general flags, type specific flags,
-- type specific revision, type data length, and the type data with what follows it (6.4.3.8.2)
body_of (d.SerialBus s) =
    s.revision ∷ s.source_index ∷ s.kind ∷ s.flags
    ∷ (to_le_bytes w16 s.kind_flags ++ s.kind_revision
    ∷ (to_le_bytes w16 s.data_length ++ s.tail.now))
body_of (d.Other i) = i.body.now

-- the descriptor's bytes
abbrev pub descriptor_bytes : Descriptor → List ℕ
descriptor_bytes d = item_bytes (tag_of d) (body_of d)

-- the bytes of descriptors, one after the other
abbrev pub template_bytes : List Descriptor → List ℕ
template_bytes ds = flat_map descriptor_bytes ds

-- the tag is one of those above but the last, and the length one of its kind
abbrev pub is_known : (tag : ℕ) (body : List ℕ) → Bool
is_known tag body =
    let n = length body in
    if tag == 0x22 then n == 2 else if tag == 0x23 then n == 3 else if tag == 0x2A then n == 2 else
    if tag == 0x30 then n == 0 else if tag == 0x31 then n == 1 else if tag == 0x38 then n == 0 else
    if tag == 0x47 then n == 7 else if tag == 0x4B then n == 3 else if tag == 0x55 then n == 5 else
    if tag == 0x79 then n == 1 else if nat_le 0x70 tag && nat_lt tag 0x78 then true else
    if tag == 0x81 then n == 9 else if tag == 0x82 then n == 12 else if tag == 0x84 then true else
    if tag == 0x85 then n == 17 else if tag == 0x86 then n == 9 else
    if tag == 0x87 then nat_le 23 n else
    if tag == 0x88 then nat_le 13 n else
    if tag == 0x89 then nat_le 2 n && nat_le (2 + 4 * slice_index body 1) n else
    if tag == 0x8A then nat_le 43 n else if tag == 0x8B then n == 53 else
    if tag == 0x8C then nat_le 20 n else
    if tag == 0x8E then nat_le 9 n else false

-- the item is of no kind that is described
abbrev pub is_other : Descriptor → Bool
is_other (d.Other i) = true
is_other _ = false

-- the template ends there (6.4.2.9)
abbrev pub is_end_tag : Descriptor → Bool
is_end_tag (d.EndTag sum) = true
is_end_tag _ = false

-- The descriptor is one that is read: its length can be told, and it is described if its tag and length are.
pub record IsProper (d : Descriptor) : Type 0 where
  pub item : IsItem (tag_of d) (body_of d)
  pub described : is_other d ≡ not (is_known (tag_of d) (body_of d))
