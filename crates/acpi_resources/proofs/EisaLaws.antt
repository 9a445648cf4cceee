-- Laws on EISA ids.
use Rattle.std.proofs.Common.{◌≡◌, ℕ, ◌+◌, ◌*◌, ◌/◌, ◌%◌, ◌<◌, ◌≤◌, ◌^◌, true, false, Bool, ◌&&◌, List, [], ◌∷◌, length, slice_index_or, refl, sym, ap, ◌∙◌, arith, rules}
use Rattle.std.specs.Prelude.{IsTrue}
use Rattle.std.specs.Int.{w32, from_le_bytes}
use Rattle.std.specs.Fmt.{digit_glyph}
use Rattle.std.proofs.lemmas.Bool.{and_parts}
use Rattle.acpi_resources.specs.EisaIds.{is_letter_number, is_eisa_number, eisa_text, byte_0, byte_1, byte_2, byte_3, letter_1, letter_2, letter_3}

-- no two digits look alike
pub glyph_same : (a b : ℕ) → a < 16 → b < 16 → digit_glyph true a ≡ digit_glyph true b → a ≡ b
glyph_same a b la lb e = grind arith

-- two bytes with the same letters
letters_same : (a b c d : ℕ) → a < 256 → b < 256 → c < 256 → d < 256 → a / 4 ≡ c / 4 → (a % 4) * 8 + b / 32 ≡ (c % 4) * 8 + d / 32 → b % 32 ≡ d % 32 → (a ≡ c) × (b ≡ d)
letters_same a b c d la lb lc ld e1 e2 e3 = (omega arith, omega arith)

-- a byte by its digits
byte_same : (a b : ℕ) → a < 256 → b < 256 → digit_glyph true (a / 16) ≡ digit_glyph true (b / 16) → digit_glyph true (a % 16) ≡ digit_glyph true (b % 16) → a ≡ b
byte_same a b la lb high low =
    let h : a / 16 ≡ b / 16 = glyph_same (a / 16) (b / 16) (omega arith) (omega arith) high in
    let l : a % 16 ≡ b % 16 = glyph_same (a % 16) (b % 16) (omega arith) (omega arith) low in
    omega arith

-- a number by its bytes
number_same : (m n : ℕ) → m < 4294967296 → n < 4294967296 → byte_0 m ≡ byte_0 n → byte_1 m ≡ byte_1 n → byte_2 m ≡ byte_2 n → byte_3 m ≡ byte_3 n → m ≡ n
number_same m n lm ln e0 e1 e2 e3 = omega arith

pub one_number : (m n : ℕ) → m < 2 ^ 32 → n < 2 ^ 32 → eisa_text m ≡ eisa_text n → m ≡ n
one_number m n lm ln e =
    let at : (k : ℕ) → slice_index_or (eisa_text m) k 0 ≡ slice_index_or (eisa_text n) k 0 = λ k. ap (λ (xs : List ℕ). slice_index_or xs k 0) e in
    let l1 : letter_1 m ≡ letter_1 n = omega (arith, at 0) in
    let l2 : letter_2 m ≡ letter_2 n = omega (arith, at 1) in
    let l3 : letter_3 m ≡ letter_3 n = omega (arith, at 2) in
    let front = letters_same (byte_0 m) (byte_1 m) (byte_0 n) (byte_1 n) (omega arith) (omega arith) (omega arith) (omega arith) l1 l2 l3 in
    let b2 : byte_2 m ≡ byte_2 n = byte_same (byte_2 m) (byte_2 n) (omega arith) (omega arith) (at 3) (at 4) in
    let b3 : byte_3 m ≡ byte_3 n = byte_same (byte_3 m) (byte_3 n) (omega arith) (omega arith) (at 5) (at 6) in
    number_same m n (omega arith) (omega arith) front.0 front.1 b2 b3

-- ---- what a number's letters are

letter_bounds : (a : ℕ) → IsTrue (is_letter_number a) → (1 ≤ a) × (a ≤ 26)
letter_bounds a h = grind arith

pub record HasLetters (n : ℕ) : Type 0 where
  pub first : (1 ≤ letter_1 n) × (letter_1 n ≤ 26)
  pub second : (1 ≤ letter_2 n) × (letter_2 n ≤ 26)
  pub third : (1 ≤ letter_3 n) × (letter_3 n ≤ 26)

pub has_letters : (n : ℕ) → IsTrue (is_eisa_number n) → HasLetters n
has_letters n h =
    let first = and_parts (is_letter_number (letter_1 n)) (is_letter_number (letter_2 n) && is_letter_number (letter_3 n)) h in
    let rest = and_parts (is_letter_number (letter_2 n)) (is_letter_number (letter_3 n)) first.1 in
    record { first = letter_bounds _ first.0; second = letter_bounds _ rest.0; third = letter_bounds _ rest.1 }

letter_is : (a : ℕ) → 1 ≤ a → a ≤ 26 → is_letter_number a ≡ true
letter_is a low high = grind arith

-- ---- the number of some characters

bytes_found : (x y z w r : ℕ) → x < 256 → y < 256 → z < 256 → w < 256 → r ≡ from_le_bytes w32 (x ∷ y ∷ z ∷ w ∷ [])
    → (byte_0 r ≡ x) × (byte_1 r ≡ y) × (byte_2 r ≡ z) × (byte_3 r ≡ w)
bytes_found x y z w r lx ly lz lw h = (omega arith, omega arith, omega arith, omega arith)

letters_found : (a b c x y : ℕ) → a ≤ 26 → b ≤ 26 → c ≤ 26 → x ≡ a * 4 + b / 8 → y ≡ (b % 8) * 32 + c
    → (x / 4 ≡ a) × ((x % 4) * 8 + y / 32 ≡ b) × (y % 32 ≡ c)
letters_found a b c x y la lb lc hx hy = (omega arith, omega arith, omega arith)

digits_found : (d e z : ℕ) → d < 16 → e < 16 → z ≡ d * 16 + e → (z / 16 ≡ d) × (z % 16 ≡ e)
digits_found d e z ld le h = (omega arith, omega arith)

-- a list of seven by its elements
seven : (xs : List ℕ) (a b c d e f g : ℕ) → length xs ≡ 7 → a ≡ slice_index_or xs 0 0 → b ≡ slice_index_or xs 1 0 → c ≡ slice_index_or xs 2 0
    → d ≡ slice_index_or xs 3 0 → e ≡ slice_index_or xs 4 0 → f ≡ slice_index_or xs 5 0 → g ≡ slice_index_or xs 6 0 → a ∷ b ∷ c ∷ d ∷ e ∷ f ∷ g ∷ [] ≡ xs
seven (t ∷ u ∷ v ∷ w ∷ x ∷ y ∷ z ∷ []) a b c d e f g len ha hb hc hd he hf hg = cc
seven _ a b c d e f g len ha hb hc hd he hf hg = absurd (omega arith)

pub is_found : (xs : List ℕ) (a b c d e f g r : ℕ) → length xs ≡ 7 → (1 ≤ a) × (a ≤ 26) × (64 + a ≡ slice_index_or xs 0 0)
    → (1 ≤ b) × (b ≤ 26) × (64 + b ≡ slice_index_or xs 1 0) → (1 ≤ c) × (c ≤ 26) × (64 + c ≡ slice_index_or xs 2 0)
    → (d < 16) × (digit_glyph true d ≡ slice_index_or xs 3 0) → (e < 16) × (digit_glyph true e ≡ slice_index_or xs 4 0)
    → (f < 16) × (digit_glyph true f ≡ slice_index_or xs 5 0) → (g < 16) × (digit_glyph true g ≡ slice_index_or xs 6 0)
    → r ≡ from_le_bytes w32 ((a * 4 + b / 8) ∷ ((b % 8) * 32 + c) ∷ (d * 16 + e) ∷ (f * 16 + g) ∷ [])
    → IsTrue (is_eisa_number r) × (eisa_text r ≡ xs)
is_found xs a b c d e f g r len ha hb hc hd he hf hg h =
    let bytes = bytes_found (a * 4 + b / 8) ((b % 8) * 32 + c) (d * 16 + e) (f * 16 + g) r (omega (arith, ha.1, hb.1)) (omega (arith, hb.1, hc.1)) (omega (arith, hd.0, he.0)) (omega (arith, hf.0, hg.0)) h in
    let letters = letters_found a b c (byte_0 r) (byte_1 r) ha.1 hb.1 hc.1 bytes.0 bytes.1 in
    let low = digits_found d e (byte_2 r) hd.0 he.0 bytes.2 in
    let high = digits_found f g (byte_3 r) hf.0 hg.0 bytes.3 in
    let l1 : letter_1 r ≡ a = letters.0 in
    let l2 : letter_2 r ≡ b = letters.1 in
    let l3 : letter_3 r ≡ c = letters.2 in
    let d1 : byte_2 r / 16 ≡ d = low.0 in
    let d2 : byte_2 r % 16 ≡ e = low.1 in
    let d3 : byte_3 r / 16 ≡ f = high.0 in
    let d4 : byte_3 r % 16 ≡ g = high.1 in
    let valid : is_eisa_number r ≡ true = rw (l1, l2, l3, letter_is a ha.0 ha.1, letter_is b hb.0 hb.1, letter_is c hc.0 hc.1) refl in
    let text : eisa_text r ≡ (64 + a) ∷ (64 + b) ∷ (64 + c) ∷ digit_glyph true d ∷ digit_glyph true e ∷ digit_glyph true f ∷ digit_glyph true g ∷ [] =
    rw (l1, l2, l3, d1, d2, d3, d4) refl in
    (rw valid (search rules), text ∙ seven xs _ _ _ _ _ _ _ len ha.2 hb.2 hc.2 hd.1 he.1 hf.1 hg.1)
