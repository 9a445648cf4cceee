-- Places of the code of tables, and their offsets (ACPI 6.5, 5.2.6).
use Rattle.std.specs.Prelude.{◌^◌, ◌/◌, ◌%◌, ◌+◌, ◌-◌, min, ℕ}
use Rattle.acpi_ranges.specs.declared.sites.Site.{Site}

-- the number of a table's bytes before a place of its code, which is a number of 64 bits
abbrev pub offset_of : ℕ → ℕ
offset_of place = min (place + 36) (2 ^ 64 - 1)

abbrev pub site_at : (number place : ℕ) → Site
site_at number place = record { table = number; offset = offset_of place }

-- the table's number and the number of bytes of its code before it, of a place that is one number
abbrev pub table_at : ℕ → ℕ
table_at place = place / 2 ^ 64

abbrev pub byte_at : ℕ → ℕ
byte_at place = place % 2 ^ 64

-- the offset counts the table's header
abbrev pub site_of : ℕ → Site
site_of place = record { table = table_at place; offset = offset_of (byte_at place) }
