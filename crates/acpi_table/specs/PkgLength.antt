-- Package lengths: how numbers are spelled, read and written (ACPI 6.5, 20.2.4).
use Rattle.std.specs.Prelude.{◌≡◌, ◌⊎◌, ◌+◌, ◌*◌, ◌/◌, ◌%◌, ◌<◌, ◌≤◌, ℕ, List, [], ◌∷◌, length, nat_lt, if◌then◌else◌}
use Rattle.byteorder.specs.Endian.{little_number, little_bytes}

-- PkgLength := PkgLeadByte | <PkgLeadByte ByteData> | <PkgLeadByte ByteData ByteData> |
-- <PkgLeadByte ByteData ByteData ByteData> (20.2.4)
--
-- A number's spelling. Bits 7 and 6 of the lead byte say how many bytes follow it. With none the
-- lead is the number. With some, bits 5 and 4 are zero, bits 3 to 0 are the low four bits of the number,
-- and each next byte is the next eight.
abbrev pub SpellsPkgLength : ℕ → List ℕ → Type 0
SpellsPkgLength n [] = ⊥
SpellsPkgLength n (lead ∷ tail) =
    ((lead < 64) × (tail ≡ []) × (n ≡ lead))
    ⊎ ((64 ≤ lead) × (lead % 64 < 16) × (length tail ≡ lead / 64)
    × (n ≡ lead % 64 + 16 * little_number (lead / 64) tail))

-- Bytes follow the lead, and its bits 5 and 4 aren't zero (20.2.4).
abbrev pub HasReservedBits : List ℕ → Type 0
HasReservedBits [] = ⊥
HasReservedBits (lead ∷ tail) = (64 ≤ lead) × (15 < lead % 64)

-- The bytes end before the package length at their front does, whose lead, if it is there, is well formed.
abbrev pub EndsInPkgLength : List ℕ → Type 0
EndsInPkgLength [] = Unit {0}
EndsInPkgLength (lead ∷ tail) = (64 ≤ lead) × (lead % 64 ≤ 15) × (length tail < lead / 64)

-- The shortest spelling of a number below 2 ^ 28 (20.2.4).
unfoldable pub shortest_pkg_length : ℕ → List ℕ
shortest_pkg_length n =
    if nat_lt n 64 then n ∷ [] else
    if nat_lt n 4096 then (64 + n % 16) ∷ little_bytes 1 (n / 16) else
    if nat_lt n 1048576 then (128 + n % 16) ∷ little_bytes 2 (n / 16) else
    (192 + n % 16) ∷ little_bytes 3 (n / 16)

-- A package's number: its payload and as few bytes of its own as serve (20.2.4).
unfoldable pub package_number : ℕ → ℕ
package_number payload =
    if nat_lt (payload + 1) 64 then payload + 1 else
    if nat_lt (payload + 2) 4096 then payload + 2 else
    if nat_lt (payload + 3) 1048576 then payload + 3 else
    payload + 4
