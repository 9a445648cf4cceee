use Rattle.std.proofs.Common.{◌≡◌, ◌∙◌, ◌+◌, ◌^◌, ◌≤◌, true, arith, get_or, sym, take}
use Rattle.std.specs.Char.{is_ascii_digit}
use Rattle.std.specs.Str.Parse.{digits_value}
use Rattle.acpins_survey_run.proofs.Digits.{all_more, least, not_all, number_is, too_large, value_more}
use Rattle.acpins_survey_run.proofs.folders.number_of.Goals as goal

pub returns-then-not-is_ascii_digit : goal.returns-then-not-is_ascii_digit
returns-then-not-is_ascii_digit c =
    not_all c.args.digits.now c.loop-c.c-index 0 c.loop-c-test.true (sym c.if-not-is_ascii_digit.ensures.value)

pub returns-in_err-checked_mul : goal.returns-in_err-checked_mul
returns-in_err-checked_mul c =
    let digits = c.args.digits.now in
    let i = c.loop-c.c-index in
    let digit : is_ascii_digit (get_or digits i 0) ≡ true = sym c.if-not-is_ascii_digit.ensures.value in
    let value = value_more digits i 0 c.loop-c-test.true digit c.loop-c.number c.loop-c.invariant.number in
    let large : 2 ^ 32 ≤ digits_value 10 (take (i + 1) digits) =
    omega (arith, value, least digits i 0 c.loop-c-test.true digit, c.in_err-checked_mul.ensures) in
    c.from_residual.ensures ∙ too_large digits (i + 1) large

pub returns-in_err-number : goal.returns-in_err-number
returns-in_err-number c =
    let digits = c.args.digits.now in
    let i = c.loop-c.c-index in
    let digit : is_ascii_digit (get_or digits i 0) ≡ true = sym c.if-not-is_ascii_digit.ensures.value in
    let value = value_more digits i 0 c.loop-c-test.true digit c.loop-c.number c.loop-c.invariant.number in
    let large : 2 ^ 32 ≤ digits_value 10 (take (i + 1) digits) =
    omega (arith, value, least digits i 0 c.loop-c-test.true digit, c.in_ok-checked_mul.ensures, c.from.ensures, c.in_err-number.ensures) in
    c.from_residual-in_err-number.ensures ∙ too_large digits (i + 1) large

pub loop-c-preserved : goal.loop-c-preserved
loop-c-preserved c =
    let digits = c.args.digits.now in
    let i = c.loop-c.c-index in
    let digit : is_ascii_digit (get_or digits i 0) ≡ true = sym c.if-not-is_ascii_digit.ensures.value in
    let value = value_more digits i 0 c.loop-c-test.true digit c.loop-c.number c.loop-c.invariant.number in
    record {
      digits = all_more digits i 0 c.loop-c-test.true digit c.loop-c.invariant.digits;
      number = omega (arith, value, least digits i 0 c.loop-c-test.true digit, c.in_ok-checked_mul.ensures, c.from.ensures, c.in_ok-number.ensures);
      small = omega (arith, c.in_ok-number.ensures);
    }

pub returns : goal.returns
returns c =
    number_is c.args.digits.now c.loop-c.c-index c.loop-c.number (omega arith) c.loop-c.invariant.small c.loop-c.invariant.digits c.loop-c.invariant.number
