-- Tables that are written (ACPI 6.5, 5.2.6).
use Rattle.std.specs.Prelude.{ℕ, List, length, slice_index}
use Rattle.acpi_table.specs.declared.tables.Header.{Header}

-- the header with the Length and Checksum that stand in these bytes, and all else as it was
abbrev pub header_for : Header → List ℕ → Header
header_for h bytes = record h { length = length bytes; checksum = slice_index bytes 9 }
