-- What is read of the bytes of a table, and what is wrong with the table as a whole (ACPI 6.5, 5.2.6 and 5.2.11).
use Rattle.std.specs.Prelude.{◌≡◌, ◌≢◌, ◌⊎◌, ◌↔◌, ◌-◌, ◌<◌, ◌≤◌, ℕ, IsTrue, List, [], length, take, drop, codes}
use Rattle.acpi_table.specs.Tables.{sum_of, length_field, IsRefusedAs}
use Rattle.acpi_table.specs.declared.tables.TableFault.TheVariants.{Short, BadLength, TooLong}
use Rattle.acpi_pieces.specs.Pieces.{HasLength}
use Rattle.acpi_pieces.specs.declared.tables.TableReason.TheVariants.{Table, NotDsdt, NotSsdt}
use Rattle.acpi_pieces.specs.declared.tables.TableContent.{TableContent}
use Rattle.acpi_pieces.specs.declared.tables.TableContent.TheVariants.{Unread, Read}

abbrev pub IsDsdt : List ℕ → Type 0
IsDsdt bytes = take 4 bytes ≡ codes "DSDT"

abbrev pub IsSsdt : List ℕ → Type 0
IsSsdt bytes = take 4 bytes ≡ codes "SSDT"

-- the code: what stands behind the header, up to the table's length or, before it, to the last byte
abbrev pub code_in : List ℕ → List ℕ
code_in bytes = drop 36 (take (length_field bytes) bytes)

-- the table is whole, and its bytes don't sum to 0
abbrev pub HasBadSum : List ℕ → Type 0
HasBadSum bytes =
    (length_field bytes ≤ length bytes) × (sum_of (take (length_field bytes) bytes) ≢ 0)

-- the table of that number has another signature than it should
abbrev pub IsOutOfPlace : ℕ → List ℕ → Type 0
IsOutOfPlace number bytes = ((number ≡ 0) × ¬ IsDsdt bytes) ⊎ ((0 < number) × ¬ IsSsdt bytes)

-- None of a table is read where it has no possible length or is neither a DSDT nor an SSDT. Else its code is, and it is
-- said whether the table is cut, or doesn't sum to 0, whether it has the signature of its number, and how many bytes
-- stand behind it.
abbrev pub IsJudged : ℕ → List ℕ → TableContent → Type 0
IsJudged number bytes (Unread (Table Short)) = IsRefusedAs Short bytes
IsJudged number bytes (Unread (Table BadLength)) = IsRefusedAs BadLength bytes
IsJudged number bytes (Unread (Table TooLong)) = IsRefusedAs TooLong bytes
IsJudged number bytes (Unread (Table f)) = ⊥
IsJudged number bytes (Unread NotDsdt) =
    HasLength bytes × ¬ IsDsdt bytes × ¬ IsSsdt bytes × (number ≡ 0)
IsJudged number bytes (Unread NotSsdt) =
    HasLength bytes × ¬ IsDsdt bytes × ¬ IsSsdt bytes × (0 < number)
IsJudged number bytes (Read code is_cut has_bad_sum is_out_of_place trailing) =
    HasLength bytes × (IsDsdt bytes ⊎ IsSsdt bytes) × (code ≡ code_in bytes)
    × (IsTrue is_cut ↔ (length bytes < length_field bytes))
    × (IsTrue has_bad_sum ↔ HasBadSum bytes)
    × (IsTrue is_out_of_place ↔ IsOutOfPlace number bytes)
    × (trailing ≡ length bytes - length_field bytes)

-- the code of a table, of which nothing is read where the table isn't
abbrev pub code_read : TableContent → List ℕ
code_read (Unread why) = []
code_read (Read code is_cut has_bad_sum is_out_of_place trailing) = code
