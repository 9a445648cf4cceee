-- Reading a package length from the left, up to the first fault (ACPI 6.5, 20.2.4).
use Rattle.std.specs.Prelude.{◌+◌, ◌*◌, ◌/◌, ◌%◌, ℕ, List, [], ◌∷◌, length, drop, Result, Ok, Err, nat_lt, if◌then◌else◌}
use Rattle.byteorder.specs.Endian.{little_number}
use Rattle.acpi_table.specs.declared.lengths.PkgFault.{PkgFault}
use Rattle.acpi_table.specs.declared.lengths.PkgFault.TheVariants.{Cut, ReservedBits}

-- Read from the left: the number at the front, and the bytes after it (20.2.4).
unfoldable pub pkg_length_at : List ℕ → Result (ℕ × List ℕ) PkgFault
pkg_length_at [] = Err Cut
pkg_length_at (lead ∷ tail) =
    if nat_lt lead 64 then Ok (lead, tail) else
    if nat_lt 15 (lead % 64) then Err ReservedBits else
    if nat_lt (length tail) (lead / 64) then Err Cut else
    Ok (lead % 64 + 16 * little_number (lead / 64) tail, drop (lead / 64) tail)
