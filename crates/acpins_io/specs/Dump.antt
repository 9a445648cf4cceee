-- The text that the program `acpidump` writes of tables: for each a line with its signature and its address, and under
-- that a row for every 16 of its bytes.
use Rattle.std.specs.Prelude.{ℕ, zero, suc, ◌+◌, ◌*◌, Bool, false, ◌&&◌, ◌||◌, ◌==◌, nat_eq, if◌then◌else◌, List, [], ◌∷◌, ◌++◌, drop, Option, None, option_and_then, option_map, codes}
use Rattle.std.specs.Option.{option_map_or}
use Rattle.std.specs.List.{slice_split, starts_with}
use Rattle.hex.specs.Hex.{hex_digit_value}

abbrev pub lines_of : List ℕ → List (List ℕ)
lines_of text = slice_split (λ c. c == 10) text

-- the first line of a table's block: four characters of a signature, and an address
abbrev pub is_header : List ℕ → Bool
is_header (a ∷ b ∷ c ∷ d ∷ rest) = starts_with nat_eq rest (codes " @ 0x")
is_header _ = false

-- a DSDT or an SSDT begins there, or a text of such blocks (ACPI 6.5, 5.2.6: a table begins with its signature)
abbrev pub begins_as_tables : List ℕ → Bool
begins_as_tables bytes =
    starts_with nat_eq bytes (codes "DSDT") || starts_with nat_eq bytes (codes "SSDT")
    || is_header bytes

-- ---- a row

-- the byte whose two digits stand behind a blank
abbrev pub byte_at : List ℕ → Option ℕ
byte_at (c ∷ high ∷ low ∷ rest) =
    if c == 32 then
    option_and_then (λ h. option_map (λ l. h * 16 + l) (hex_digit_value low))
    (hex_digit_value high) else None
byte_at _ = None

-- the bytes from there on, at most n
unfoldable pub bytes_at : ℕ → List ℕ → List ℕ
bytes_at zero text = []
bytes_at (suc n) text = option_map_or (λ b. b ∷ bytes_at n (drop 3 text)) (byte_at text) []

-- what stands behind the offset and its colon
abbrev pub behind_offset : List ℕ → List ℕ
behind_offset [] = []
behind_offset (c ∷ line) = if c == 58 then line else behind_offset line

-- the bytes of a row: at most 16
abbrev pub row_bytes : List ℕ → List ℕ
row_bytes line = bytes_at 16 (behind_offset line)

-- ---- blocks

-- the bytes of the rows under a block's first line
abbrev pub bytes_under : List (List ℕ) → List ℕ
bytes_under [] = []
bytes_under (line ∷ lines) = if is_header line then [] else row_bytes line ++ bytes_under lines

-- the bytes of the blocks with that signature, in their order
abbrev pub blocks_of : List ℕ → List (List ℕ) → List (List ℕ)
blocks_of signature [] = []
blocks_of signature (line ∷ lines) =
    if is_header line && starts_with nat_eq line signature then
    bytes_under lines ∷ blocks_of signature lines else blocks_of signature lines

-- the DSDTs, and behind them the SSDTs
abbrev pub tables_of_dump : List ℕ → List (List ℕ)
tables_of_dump text =
    blocks_of (codes "DSDT") (lines_of text) ++ blocks_of (codes "SSDT") (lines_of text)
