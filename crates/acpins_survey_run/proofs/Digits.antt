-- Numbers that decimal digits spell.
use Rattle.std.proofs.Common.{◌≡◌, ◌+◌, ◌*◌, ◌^◌, ◌<◌, ◌≤◌, ◌∙◌, ℕ, Bool, true, false, ◌&&◌, List, take, get_or, length, Option, Some, None, nat_lt, if◌then◌else◌, ap, sym, refl, arith, tests, rules, take_all}
use Rattle.std.specs.Int.{IsInRange}
use Rattle.std.proofs.lemmas.Bool.{lt-ltb, le-ltb}
use Rattle.std.specs.Char.{is_ascii_digit}
use Rattle.std.specs.Str.{all_ascii_digits}
use Rattle.std.specs.Str.Parse.{digits_value}
use Rattle.std.proofs.lemmas.List.{take_more}
use Rattle.std.proofs.lemmas.List.Recursion.{and_fails_at, and_push}
use Rattle.std.proofs.lemmas.Int.Digits.{digits_value_push}
use Rattle.std.proofs.lemmas.Str.Parse.{digits_value-take-le}
use Rattle.std.proofs.lemmas.Str.{digit_value_digit}
use Rattle.acpins_survey_run.specs.Folders.{number_of}

abbrev spelled : Bool → ℕ → Option ℕ
spelled digits n = if digits && nat_lt n (2 ^ 32) then Some n else None

spelled_small : (n : ℕ) → n < 2 ^ 32 → Some n ≡ spelled true n
spelled_small n small = sym (ap (λ (t : Bool). if t then Some n else None) (lt-ltb n (2 ^ 32) small))

spelled_large : (digits : Bool) (n : ℕ) → 2 ^ 32 ≤ n → None ≡ spelled digits n
spelled_large true n large = sym (ap (λ (t : Bool). if t then Some n else None) (le-ltb n (2 ^ 32) large))
spelled_large false n large = refl

-- all digits were read
pub number_is : (ds : List ℕ) (i number : ℕ) → length ds ≤ i → number < 2 ^ 32 → all_ascii_digits (take i ds) ≡ true → number ≡ digits_value 10 (take i ds)
    → Some number ≡ number_of ds
number_is ds i number past small all is =
    let whole = take_all i ds past in
    spelled_small number small
    ∙ ap (λ (b : Bool). spelled b number) (sym all ∙ ap all_ascii_digits whole)
    ∙ ap (spelled (all_ascii_digits ds)) (is ∙ ap (digits_value 10) whole)

-- those up to one are too many
pub too_large : (ds : List ℕ) (i : ℕ) → 2 ^ 32 ≤ digits_value 10 (take i ds) → None ≡ number_of ds
too_large ds i large =
    spelled_large (all_ascii_digits ds) (digits_value 10 ds) (omega (arith, large, digits_value-take-le 10 ds i (omega arith)))

-- what is no digit, among others
pub not_all : (ds : List ℕ) (i d : ℕ) → i < length ds → is_ascii_digit (get_or ds i d) ≡ false → None ≡ number_of ds
not_all ds i d below other =
    let fails = and_fails_at all_ascii_digits is_ascii_digit refl (λ _ _. refl) ds i d below other in
    sym (ap (λ (b : Bool). spelled b (digits_value 10 ds)) fails)

-- a digit more
module _ (ds : List ℕ) (i d : ℕ) (below : i < length ds) (digit : is_ascii_digit (get_or ds i d) ≡ true) where
  pub all_more : all_ascii_digits (take i ds) ≡ true → all_ascii_digits (take (i + 1) ds) ≡ true
  all_more before =
      let c = get_or ds i d in
      ap all_ascii_digits (take_more ds i d below)
      ∙ and_push all_ascii_digits is_ascii_digit refl (λ _ _. refl) (take i ds) c
      ∙ ap (λ (b : Bool). b && is_ascii_digit c) before
      ∙ digit

  pub value_more : (number : ℕ) → number ≡ digits_value 10 (take i ds) → digits_value 10 (take (i + 1) ds) + 48 ≡ number * 10 + get_or ds i d
  value_more number before =
      let c = get_or ds i d in
      let range : IsInRange 48 57 c = search (rules, tests) in
      let value = digit_value_digit c range in
      let all = ap (digits_value 10) (take_more ds i d below) ∙ digits_value_push 10 (take i ds) c in
      omega (arith, before, value, all)

  pub least : 48 ≤ get_or ds i d
  least = let range : IsInRange 48 57 (get_or ds i d) = search (rules, tests) in range.0
