-- Strings: what is spelled is read.
use Rattle.std.proofs.Common.{◌≡◌, ℕ, suc, ◌+◌, ◌≤◌, ◌<◌, Bool, true, false, cond, ltb, eqb, ◌&&◌, List, [], ◌∷◌, ◌++◌, length, take, drop, Ok, refl, sym, ap, ◌∙◌, arith}
use Rattle.std.proofs.lemmas.Bool.{lt-ltb, ltb-false, ltb-true, eqb-false}
use Rattle.std.proofs.lemmas.List.{take_at, drop_at}
use Rattle.std.proofs.lemmas.List.Folds.{length-prefix_len}
use Rattle.std.specs.List.{AllByRecursion, prefix_len}
use Rattle.acpi_name.proofs.NameAgain.{and_true}
use Rattle.acpi_code.specs.Spelling.{IsText}
use Rattle.acpi_code.specs.steps.Reading.{byte_at, is_text, string_at}

text_len : (text rest : List ℕ) → AllByRecursion IsText text → prefix_len is_text (text ++ 0 ∷ rest) ≡ length text
text_len [] rest h = refl
text_len (b ∷ text) rest h = rw (lt-ltb 0 b h.0.0, lt-ltb b 128 h.0.1, text_len text rest h.1) (omega arith)

pub string_complete : (end : ℕ) (text rest : List ℕ) → AllByRecursion IsText text → string_at end (text ++ 0 ∷ rest) ≡ Ok (text, rest)
unfolding string_at byte_at
string_complete end text rest h =
    rw (length-prefix_len is_text (text ++ 0 ∷ rest), text_len text rest h, take_at text (0 ∷ rest) (length text) refl, drop_at text (0 ∷ rest) (length text) refl) refl

-- ---- what is no text

is_text_fact : (b : ℕ) → is_text b ≡ true → IsText b
is_text_fact b h = let both = and_true (ltb 0 b) (ltb b 128) h in (ltb-true 0 b both.0, ltb-true b 128 both.1)

pub all_text : (bytes : List ℕ) → AllByRecursion IsText (take (prefix_len is_text bytes) bytes)
all_text [] = tt
all_text (b ∷ bytes) = by_test (all_text bytes) (is_text b) refl
  where
    by_test : AllByRecursion IsText (take (prefix_len is_text bytes) bytes) → (t : Bool) → is_text b ≡ t → AllByRecursion IsText (take (cond t (1 + prefix_len is_text bytes) 0) (b ∷ bytes))
    by_test more true e =
        let one : 1 + prefix_len is_text bytes ≡ suc (prefix_len is_text bytes) = omega arith in
        rw one (is_text_fact b e, more)
    by_test more false e = tt

abbrev first : List ℕ → ℕ
first [] = 0
first (x ∷ xs) = x

-- what follows the text is no text
pub no_text : (bytes : List ℕ) (b : ℕ) (rest : List ℕ) → drop (prefix_len is_text bytes) bytes ≡ b ∷ rest → is_text b ≡ false
no_text [] b rest h = absurd cc
no_text (c ∷ bytes) b rest h = by_test (no_text bytes b rest) (is_text c) refl h
  where
    by_test : (drop (prefix_len is_text bytes) bytes ≡ b ∷ rest → is_text b ≡ false) → (t : Bool) → is_text c ≡ t
        → drop (cond t (1 + prefix_len is_text bytes) 0) (c ∷ bytes) ≡ b ∷ rest → is_text b ≡ false
    by_test more true e h =
        let one : 1 + prefix_len is_text bytes ≡ suc (prefix_len is_text bytes) = omega arith in
        more (ap (λ k. drop k (c ∷ bytes)) (sym one) ∙ h)
    by_test more false e h = ap is_text (sym (ap first h)) ∙ e

pub above_text : (b : ℕ) → is_text b ≡ false → eqb b 0 ≡ false → 127 < b
above_text b none some = by_tests (ltb 0 b) (ltb b 128) refl refl none
  where
    by_tests : (l h : Bool) → ltb 0 b ≡ l → ltb b 128 ≡ h → (l && h) ≡ false → 127 < b
    by_tests true true e d f = absurd cc
    by_tests true false e d f = let low : 128 ≤ b = ltb-false b 128 d in omega arith
    by_tests false h e d f = let low : b ≤ 0 = ltb-false 0 b e in let not_zero = eqb-false b 0 some in absurd (not_zero (omega arith))
