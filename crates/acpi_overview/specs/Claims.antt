-- Addresses that devices claim by their constant _CRS (ACPI 6.5, 6.2.2 and 6.4).
use Rattle.std.specs.Prelude.{◌≡◌, ◌<◌, ◌≤◌, ◌+◌, ◌*◌, ◌-◌, ◌^◌, ◌%◌, ◌⊎◌, ℕ, Bool, true, false, min, ◌==◌, ◌&&◌, nat_eq, List, [], ◌∷◌, ◌++◌, zero, suc, slice_get, map, take, Option, Some, None, if◌then◌else◌}
use Rattle.std.specs.List.{Contains, dedup, filter_map}
use Rattle.acpi_resources.specs.declared.descriptor.AddressSpace.{AddressSpace}
use Rattle.acpi_resources.specs.declared.descriptor.Descriptor.{Descriptor}
use Rattle.acpi_resources.specs.declared.descriptor.Descriptor.TheVariants as d
use Rattle.acpi_resources.specs.declared.template.Template.{Template}
use Rattle.acpi_overview.specs.HostBridges.{is_host_bridge}
use Rattle.acpi_overview.specs.declared.containers.Container.{Container}
use Rattle.acpi_overview.specs.declared.resources.AddressKind.{AddressKind}
use Rattle.acpi_overview.specs.declared.resources.AddressKind.TheVariants as kinds
use Rattle.acpi_overview.specs.declared.claims.Claim.{Claim}
use Rattle.acpi_overview.specs.declared.claims.Cover.{Cover}

-- So many addresses from one on, if there are any: the first, and the first behind them, which is at most the last
-- number of 64 bits.
abbrev pub range_of : AddressKind → (from count : ℕ) → Option (AddressKind × ℕ × ℕ)
range_of kind from count =
    if count == 0 then None else Some (kind, from, min (from + count) (2 ^ 64 - 1))

-- those of a range whose lowest and highest base are one, so that it can't be moved
abbrev pub fixed_range : AddressKind → (low high count : ℕ) → Option (AddressKind × ℕ × ℕ)
fixed_range kind low high count = if low == high then range_of kind low count else None

-- Memory is of type 0, I/O of type 1. Where flag bit 0 is clear a bridge produces the range: it passes it on to the
-- devices behind it, and claims none of it (6.4.3.5).
abbrev pub space_range : AddressSpace → Bool → Option (AddressKind × ℕ × ℕ)
space_range a is_bridge =
    if is_bridge && a.flags % 2 == 0 then None else
    if a.kind == 0 then range_of kinds.Memory a.min a.length else
    if a.kind == 1 then range_of kinds.Ports a.min a.length else None

-- what a descriptor claims, of a container that may be a PCI host bridge
abbrev pub claimed_range : (is_bridge : Bool) → Descriptor → Option (AddressKind × ℕ × ℕ)
-- I/O Port Descriptor (6.4.2.5)
claimed_range _ (d.Io i) = fixed_range kinds.Ports i.min i.max i.length
-- Fixed Location I/O Port Descriptor (6.4.2.6)
claimed_range _ (d.FixedIo i) = range_of kinds.Ports i.base i.length
-- 24-Bit Memory Range Descriptor, in units of 256 bytes (6.4.3.1)
claimed_range _ (d.Memory24 m) =
    fixed_range kinds.Memory (m.min * 256) (m.max * 256) (m.length * 256)
-- 32-Bit Memory Range Descriptor (6.4.3.3)
claimed_range _ (d.Memory32 m) = fixed_range kinds.Memory m.min m.max m.length
-- 32-Bit Fixed Memory Range Descriptor (6.4.3.4)
claimed_range _ (d.FixedMemory32 m) = range_of kinds.Memory m.base m.length
-- QWord, DWord and Word Address Space Descriptors (6.4.3.5.1 to 6.4.3.5.3)
claimed_range is_bridge (d.AddressSpace a) = space_range a is_bridge
claimed_range _ _ = None

abbrev pub is_same : AddressKind → AddressKind → Bool
is_same kinds.Memory kinds.Memory = true
is_same kinds.Ports kinds.Ports = true
is_same _ _ = false

-- the claim of the container of a number to a range, if that is of the kind
abbrev pub claim_to : AddressKind → (number : ℕ) → Option (AddressKind × ℕ × ℕ) → Option Claim
claim_to _ number None = None
claim_to kind number (Some range) = if is_same kind range.0
    then Some (record { from = range.1; to = range.2; container = number }) else None

-- the claims of a kind that its descriptors make
abbrev pub claims_in : AddressKind → (is_bridge : Bool) → (number : ℕ)
    → List Descriptor → List Claim
claims_in kind is_bridge number descriptors =
    filter_map (λ d. claim_to kind number (claimed_range is_bridge d)) descriptors

-- those of a container with its resources, if there are both
abbrev pub claims_of : AddressKind → ℕ → Option Container → Option (Option Template) → List Claim
claims_of kind number (Some c) (Some (Some t)) =
    claims_in kind (is_host_bridge c) number t.descriptors.items
claims_of _ _ _ _ = []

-- those of the container of a number among all
abbrev pub claims_at : AddressKind → List Container → List (Option Template) → ℕ → List Claim
claims_at kind containers resources n =
    claims_of kind n (slice_get containers n) (slice_get resources n)

-- those of the first containers
abbrev pub claims_upto : AddressKind → List Container → List (Option Template) → (count : ℕ)
    → List Claim
claims_upto kind containers resources zero = []
claims_upto kind containers resources (suc n) =
    claims_upto kind containers resources n ++ claims_at kind containers resources n

-- the claims of memory, and those of ports
pub record ClaimLists : Type 0 where
  pub memory : List Claim
  pub ports : List Claim

abbrev pub of_kind : ClaimLists → AddressKind → List Claim
of_kind lists kinds.Memory = lists.memory
of_kind lists kinds.Ports = lists.ports

-- a claim holds an address
abbrev pub Holds : Claim → ℕ → Type 0
Holds c address = (c.from ≤ address) × (address < c.to)

-- no claim holds an address
abbrev pub IsFree : List Claim → ℕ → Type 0
IsFree claims address = (c : Claim) → Contains claims c → Holds c address → ⊥

-- a claim that holds an address, where none that holds it ends behind it
abbrev pub IsFurthest : List Claim → ℕ → Claim → Type 0
IsFurthest claims address c = Contains claims c × Holds c address
    × ((other : Claim) → Contains claims other → Holds other address → other.to ≤ c.to)

-- Claims one behind the other from an address on: each is the furthest at the address where the one before ends, which
-- lies before the end of the range. The last one ends at `to`.
abbrev pub IsChain : List Claim → (from end : ℕ) → List Claim → (to : ℕ) → Type 0
IsChain claims from end [] to = to ≡ from
IsChain claims from end (c ∷ chain) to =
    (from < end) × IsFurthest claims from c × IsChain claims c.to end chain to

-- the first eight of their containers, each once where it stands several times in a row
abbrev pub IsNamed : List Claim → Cover → Type 0
IsNamed chain c = c.containers.items ≡ take 8 (dedup nat_eq (map (λ one. one.container) chain))

-- A chain of claims covers a range from its first address on, up to its end or to an address that no claim holds.
abbrev pub IsCoverOf : List Claim → (from end : ℕ) → Cover → Type 0
IsCoverOf claims from end c = (chain : List Claim) × IsChain claims from end chain c.to
    × ((end ≤ c.to) ⊎ IsFree claims c.to) × IsNamed chain c
