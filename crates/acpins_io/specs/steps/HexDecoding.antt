-- A hexadecimal text that is decoded part by part.
use Rattle.std.specs.Prelude.{◌≡◌, ℕ, List, [], ◌∷◌, ◌++◌, Option, Some, None, Ok}
use Rattle.hex.specs.Hex.{decode_of, hex_digit_value}
use Rattle.acpins_io.specs.Hexadecimal.{digits_of, SpellsInHex}
use Rattle.acpins_io.specs.declared.hexadecimal.HexDecoder.{HexDecoder}

-- the digits whose second one is to come: none, or one of that value
abbrev pub IsPending : Option ℕ → List ℕ → Type 0
IsPending None digits = digits ≡ []
IsPending (Some value) digits =
    (digit : ℕ) × (digits ≡ digit ∷ []) × (hex_digit_value digit ≡ Some value)

-- the decoder has the bytes of the text's digits, and one digit more where their number is odd
pub record IsDecoded (text : List ℕ) (decoder : HexDecoder) : Type 0 where
  pub pairs : List ℕ
  pub pending : List ℕ
  pub split : digits_of text ≡ pairs ++ pending
  pub bytes_are : decode_of pairs ≡ Ok decoder.bytes.items
  pub pending_is : IsPending decoder.high pending

-- no text in which these characters stand spells bytes
abbrev pub SpellsNothing : List ℕ → Type 0
SpellsNothing part = (before after bytes : List ℕ) → SpellsInHex bytes (before ++ part ++ after) → ⊥
