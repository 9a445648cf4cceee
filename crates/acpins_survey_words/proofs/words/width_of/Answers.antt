use Rattle.std.proofs.Common.{◌≡◌, ◌∙◌, ap, sym, arith, inl, inr, drop, drop-cons, get_or, suc, ◌+◌, ◌∷◌, false}
use Rattle.acpins_survey_words.specs.Words.{is_width}
use Rattle.acpins_survey_words.proofs.WidthText.{width_after, digit_read, not_digit, too_large}
use Rattle.acpins_survey_words.proofs.words.width_of.Goals as goal

pub loop-digit-init : goal.loop-digit-init
loop-digit-init c = ap is_width c.as_bytes-digit-items.ensures.value

pub returns-then-not-is_ascii_digit : goal.returns-then-not-is_ascii_digit
returns-then-not-is_ascii_digit c =
    let items = c.as_bytes-digit-items.result.now in
    let i = c.loop-digit.digit-index in
    let n = c.loop-digit.width in
    let parts : drop i items ≡ get_or items i 0 ∷ drop (suc i) items = drop-cons items i 0 c.loop-digit-test.true in
    let none : false ≡ width_after n (drop i items) = elim c.then-not-is_ascii_digit.either [
      | inl other ↦ not_digit n (get_or items i 0) (drop (suc i) items) (sym c.is_ascii_digit.ensures.value ∙ other) ∙ ap (width_after n) (sym parts)
      | inr large ↦ too_large n (drop i items) large.1
    ] in
    none ∙ c.loop-digit.invariant

pub loop-digit-preserved : goal.loop-digit-preserved
loop-digit-preserved c =
    let items = c.as_bytes-digit-items.result.now in
    let i = c.loop-digit.digit-index in
    let n = c.loop-digit.width in
    let b = get_or items i 0 in
    let parts : drop i items ≡ b ∷ drop (suc i) items = drop-cons items i 0 c.loop-digit-test.true in
    let next : i + 1 ≡ suc i = omega arith in
    rw (c.from.ensures, next) (digit_read n b (drop (suc i) items) (sym c.if-not-is_ascii_digit.ensures.value) c.if-not-is_ascii_digit.ensures.cases
    ∙ ap (width_after n) (sym parts) ∙ c.loop-digit.invariant)
