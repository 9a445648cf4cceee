-- Offsets of places of a code.
use Rattle.std.proofs.Common.{◌≡◌, ◌+◌, ◌-◌, ◌^◌, min, ℕ, arith}
use Rattle.acpi_ranges.specs.Sites.{offset_of}

-- an offset that is cut to 64 bits twice
pub offset_behind : (m n : ℕ) → offset_of (min (m + n) (2 ^ 64 - 1)) ≡ offset_of (m + n)
offset_behind m n = omega arith
