-- Hexadecimal texts: digits of either case, with spaces, tabs and line ends anywhere.
use Rattle.std.specs.Prelude.{◌≡◌, ℕ, Bool, ◌||◌, not, nat_eq, List, filter, Ok}
use Rattle.hex.specs.Hex.{decode_of}

-- a space, a tab, CR or LF
abbrev pub is_blank : ℕ → Bool
is_blank b = nat_eq b 32 || nat_eq b 9 || nat_eq b 13 || nat_eq b 10

abbrev pub digits_of : List ℕ → List ℕ
digits_of text = filter (λ b. not (is_blank b)) text

-- the text's digits are those of the bytes
abbrev pub SpellsInHex : List ℕ → List ℕ → Type 0
SpellsInHex bytes text = decode_of (digits_of text) ≡ Ok bytes
