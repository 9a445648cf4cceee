use Rattle.std.proofs.Common.{◌≡◌, ◌∙◌, ap, sym, arith, inl, inr, drop, drop-cons, length, get_or, suc, ◌≤◌, drop_of_length-le, ◌+◌, ◌∷◌, None}
use Rattle.acpins_words.specs.Arguments.{depth_said}
use Rattle.acpins_words.proofs.DepthText.{depth_after, digit_read, not_digit, too_large}
use Rattle.acpins_words.proofs.arguments.depth_of.Goals as goal

pub loop-digit-init : goal.loop-digit-init
loop-digit-init c = ap depth_said c.as_bytes-digit-items.ensures.value

pub returns-then-not-is_ascii_digit : goal.returns-then-not-is_ascii_digit
returns-then-not-is_ascii_digit c =
    let items = c.as_bytes-digit-items.result.now in
    let i = c.loop-digit.digit-index in
    let n = c.loop-digit.depth in
    let parts : drop i items ≡ get_or items i 0 ∷ drop (suc i) items = drop-cons items i 0 c.loop-digit-test.true in
    let none : None ≡ depth_after n (drop i items) = elim c.then-not-is_ascii_digit.either [
      | inl other ↦ not_digit n (get_or items i 0) (drop (suc i) items) (sym c.is_ascii_digit.ensures.value ∙ other) ∙ ap (depth_after n) (sym parts)
      | inr large ↦ too_large n (drop i items) large.1
    ] in
    none ∙ c.loop-digit.invariant

pub loop-digit-preserved : goal.loop-digit-preserved
loop-digit-preserved c =
    let items = c.as_bytes-digit-items.result.now in
    let i = c.loop-digit.digit-index in
    let n = c.loop-digit.depth in
    let b = get_or items i 0 in
    let parts : drop i items ≡ b ∷ drop (suc i) items = drop-cons items i 0 c.loop-digit-test.true in
    let next : i + 1 ≡ suc i = omega arith in
    rw (c.from.ensures, next) (digit_read n b (drop (suc i) items) (sym c.if-not-is_ascii_digit.ensures.value) c.if-not-is_ascii_digit.ensures.cases
    ∙ ap (depth_after n) (sym parts) ∙ c.loop-digit.invariant)

pub returns : goal.returns
returns c =
    let items = c.as_bytes-digit-items.result.now in
    let i = c.loop-digit.digit-index in
    let n = c.loop-digit.depth in
    let over : length items ≤ i = omega arith in
    c.new.ensures ∙ sym (ap (depth_after n) (drop_of_length-le items over)) ∙ c.loop-digit.invariant
