-- The number of decimal digits, digit by digit.
use Rattle.std.proofs.Common.{◌≡◌, ◌+◌, ◌-◌, ◌*◌, ◌<◌, ◌≤◌, ℕ, Bool, true, false, List, [], ◌∷◌, refl, arith}
use Rattle.std.specs.Prelude.{◌&&◌, nat_le}
use Rattle.std.specs.Char.{digit_value, is_ascii_digit, IsAsciiDigit}
use Rattle.std.specs.Str.{all_ascii_digits}
use Rattle.std.specs.Str.Parse.{digits_value_after}
use Rattle.std.proofs.lemmas.Bool.Decides.{nat_tests}

-- whether the digits that follow those of n say a width
abbrev pub width_after : ℕ → List ℕ → Bool
width_after n ds =
    let value = digits_value_after 10 n ds in
    all_ascii_digits ds && (nat_le 60 value && nat_le value 1000)

digit_is : (c : ℕ) → IsAsciiDigit c → digit_value c ≡ c - 48
digit_is c h = grind (arith, nat_tests)

-- one more digit
pub digit_read : (n c : ℕ) (ds : List ℕ) → is_ascii_digit c ≡ true → IsAsciiDigit c → width_after (n * 10 + (c - 48)) ds ≡ width_after n (c ∷ ds)
digit_read n c ds test h = rw (test, digit_is c h) refl

pub not_digit : (n c : ℕ) (ds : List ℕ) → is_ascii_digit c ≡ false → false ≡ width_after n (c ∷ ds)
not_digit n c ds test = rw test refl

grows : (n : ℕ) (ds : List ℕ) → n ≤ digits_value_after 10 n ds
grows n [] = omega arith
grows n (c ∷ ds) = omega (arith, grows (n * 10 + digit_value c) ds)

none_if : (a b c : Bool) → c ≡ false → false ≡ (a && (b && c))
none_if true true c e = rw e refl
none_if true false c e = refl
none_if false b c e = refl

-- a number past 1,000 is none, whatever follows
pub too_large : (n : ℕ) (ds : List ℕ) → 1000 < n → false ≡ width_after n ds
too_large n ds h =
    let value = digits_value_after 10 n ds in
    let large : 1000 < value = omega (arith, grows n ds) in
    none_if (all_ascii_digits ds) (nat_le 60 value) (nat_le value 1000) (grind (arith, nat_tests))
