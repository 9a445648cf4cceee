-- The number of decimal digits, digit by digit.
use Rattle.std.proofs.Common.{◌≡◌, ◌+◌, ◌-◌, ◌*◌, ◌<◌, ◌≤◌, ℕ, Bool, true, false, List, [], ◌∷◌, Option, Some, None, refl, arith, cond}
use Rattle.std.specs.Prelude.{◌&&◌, nat_le, if◌then◌else◌}
use Rattle.std.specs.Char.{digit_value, is_ascii_digit, IsAsciiDigit}
use Rattle.std.specs.Str.{all_ascii_digits}
use Rattle.std.specs.Str.Parse.{digits_value_after}
use Rattle.std.proofs.lemmas.Bool.Decides.{nat_tests}

-- what the digits say that follow those of n
abbrev pub depth_after : ℕ → List ℕ → Option ℕ
depth_after n ds =
    let value = digits_value_after 10 n ds in
    if all_ascii_digits ds && (nat_le 1 value && nat_le value 4096) then Some value else None

digit_is : (c : ℕ) → IsAsciiDigit c → digit_value c ≡ c - 48
digit_is c h = grind (arith, nat_tests)

-- one more digit
pub digit_read : (n c : ℕ) (ds : List ℕ) → is_ascii_digit c ≡ true → IsAsciiDigit c → depth_after (n * 10 + (c - 48)) ds ≡ depth_after n (c ∷ ds)
digit_read n c ds test h = rw (test, digit_is c h) refl

pub not_digit : (n c : ℕ) (ds : List ℕ) → is_ascii_digit c ≡ false → None ≡ depth_after n (c ∷ ds)
not_digit n c ds test = rw test refl

grows : (n : ℕ) (ds : List ℕ) → n ≤ digits_value_after 10 n ds
grows n [] = omega arith
grows n (c ∷ ds) = omega (arith, grows (n * 10 + digit_value c) ds)

none_if : (v : ℕ) (a b c : Bool) → c ≡ false → None ≡ cond (a && (b && c)) (Some v) None
none_if v true true c e = rw e refl
none_if v true false c e = refl
none_if v false b c e = refl

-- a number past 4,096 is none, whatever follows
pub too_large : (n : ℕ) (ds : List ℕ) → 4096 < n → None ≡ depth_after n ds
too_large n ds h =
    let value = digits_value_after 10 n ds in
    let large : 4096 < value = omega (arith, grows n ds) in
    none_if value (all_ascii_digits ds) (nat_le 1 value) (nat_le value 4096) (grind (arith, nat_tests))
