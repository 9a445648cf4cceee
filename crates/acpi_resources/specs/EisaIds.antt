-- EISA ids: three letters and four hexadecimal digits in a number of 32 bits (ACPI 6.5, 6.1.5 and 19.3.4).
use Rattle.std.specs.Prelude.{ℕ, ◌+◌, ◌*◌, ◌/◌, ◌%◌, Bool, true, List, [], ◌∷◌, nat_le, ◌&&◌}
use Rattle.std.specs.Fmt.{digit_glyph}

-- the number's bytes, the lowest first
abbrev pub byte_0 : ℕ → ℕ
byte_0 n = n % 256

abbrev pub byte_1 : ℕ → ℕ
byte_1 n = n / 256 % 256

abbrev pub byte_2 : ℕ → ℕ
byte_2 n = n / 65536 % 256

abbrev pub byte_3 : ℕ → ℕ
byte_3 n = n / 16777216 % 256

-- Behind a bit 0, each letter has five bits: 1 for A to 26 for Z. The first two bytes have them.
abbrev pub letter_1 : ℕ → ℕ
letter_1 n = byte_0 n / 4

abbrev pub letter_2 : ℕ → ℕ
letter_2 n = (byte_0 n % 4) * 8 + byte_1 n / 32

abbrev pub letter_3 : ℕ → ℕ
letter_3 n = byte_1 n % 32

abbrev pub is_letter_number : ℕ → Bool
is_letter_number a = nat_le 1 a && nat_le a 26

-- the number is one of an id
abbrev pub is_eisa_number : ℕ → Bool
is_eisa_number n = is_letter_number (letter_1 n)
    && (is_letter_number (letter_2 n) && is_letter_number (letter_3 n))

-- its characters; each digit has four bits of the last two bytes
abbrev pub eisa_text : ℕ → List ℕ
eisa_text n =
    (64 + letter_1 n) ∷ (64 + letter_2 n) ∷ (64 + letter_3 n)
    ∷ digit_glyph true (byte_2 n / 16) ∷ digit_glyph true (byte_2 n % 16)
    ∷ digit_glyph true (byte_3 n / 16) ∷ digit_glyph true (byte_3 n % 16) ∷ []
