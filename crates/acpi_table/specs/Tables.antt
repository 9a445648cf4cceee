-- Tables: their bytes, their sum, and the header's fields (ACPI 6.5, 5.2.6).
use Rattle.std.specs.Prelude.{◌≡◌, ◌≢◌, ◌%◌, ◌<◌, ◌≤◌, ℕ, List, length, sum, take, drop, slice_index, Result, Ok, Err, nat_lt, ◌==◌, if◌then◌else◌}
use Rattle.byteorder.specs.Endian.{little_number}
use Rattle.acpi_table.specs.declared.tables.Header.{Header}
use Rattle.acpi_table.specs.declared.tables.TableFault.{TableFault}
use Rattle.acpi_table.specs.declared.tables.TableFault.TheVariants.{Short, BadLength, TooLong, Cut, BadSum}

-- The sum of the bytes modulo 256 (5.2.6, Checksum).
abbrev pub sum_of : List ℕ → ℕ
sum_of bytes = sum bytes % 256

-- The field Length of a table that begins there: the table's bytes, its header's among them (5.2.6).
abbrev pub length_field : List ℕ → ℕ
length_field bytes = little_number 4 (drop 4 bytes)

-- The fields of a header that begins there (5.2.6, Table 5.4), with the names of that section. In the grammar
-- DefBlockHeader := TableSignature TableLength SpecCompliance CheckSum OemID OemTableID OemRevision CreatorID
-- CreatorRevision (20.2.1).
abbrev pub header_of : List ℕ → Header
header_of bytes = record {
  signature = take 4 bytes;
  length = length_field bytes;
  revision = slice_index bytes 8;
  checksum = slice_index bytes 9;
  oem_id = take 6 (drop 10 bytes);
  oem_table_id = take 8 (drop 16 bytes);
  oem_revision = little_number 4 (drop 24 bytes);
  creator_id = take 4 (drop 28 bytes);
  creator_revision = little_number 4 (drop 32 bytes);
}

-- The bytes are one whole table (5.2.6; AMLCode := DefBlockHeader TermList, 20.2.1): a header at least, 16 MiB at most
-- (a limit of our own), as many as Length says, and their sum is 0.
pub record IsTable (bytes : List ℕ) : Type 0 where
  pub has_header : 36 ≤ length bytes
  pub within_limit : length bytes ≤ 16777216
  pub has_length : length_field bytes ≡ length bytes
  pub sums_to_zero : sum_of bytes ≡ 0

-- Why no table stands at the front of the bytes: the first of these that holds.
abbrev pub IsRefusedAs : TableFault → List ℕ → Type 0
IsRefusedAs Short bytes = length bytes < 36
IsRefusedAs BadLength bytes = (36 ≤ length bytes) × (length_field bytes < 36)
IsRefusedAs TooLong bytes = (36 ≤ length bytes) × (16777216 < length_field bytes)
IsRefusedAs Cut bytes =
    (36 ≤ length bytes) × (36 ≤ length_field bytes) × (length_field bytes ≤ 16777216)
    × (length bytes < length_field bytes)
IsRefusedAs BadSum bytes =
    (36 ≤ length_field bytes) × (length_field bytes ≤ 16777216)
    × (length_field bytes ≤ length bytes)
    × (sum_of (take (length_field bytes) bytes) ≢ 0)

-- The table at the front, and the bytes after it (5.2.6).
unfoldable pub table_at : List ℕ → Result (List ℕ × List ℕ) TableFault
table_at bytes =
    if nat_lt (length bytes) 36 then Err Short else
    if nat_lt (length_field bytes) 36 then Err BadLength else
    if nat_lt 16777216 (length_field bytes) then Err TooLong else
    if nat_lt (length bytes) (length_field bytes) then Err Cut else
    if sum_of (take (length_field bytes) bytes) == 0 then
    Ok (take (length_field bytes) bytes, drop (length_field bytes) bytes)
    else Err BadSum
