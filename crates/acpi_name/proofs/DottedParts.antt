-- The parts of a text between its dots.
use Rattle.std.proofs.Common.{◌≡◌, ℕ, ◌+◌, ◌-◌, ◌≤◌, Bool, true, false, cond, ltb, eqb, Some, None, List, [], ◌∷◌, length, take, drop, refl, arith}
use Rattle.std.specs.List.{position, position_or_len}
use Rattle.std.proofs.lemmas.Bool.{ltb-true, ltb-false}
use Rattle.std.proofs.lemmas.List.{take_rest}
use Rattle.std.proofs.lemmas.List.Sums.{fails_before_first}
use Rattle.std.proofs.lemmas.List.Splits.{slice_split_first, slice_split_none}
use Rattle.acpi_name.specs.steps.TextReading.{dotted_parts}

-- at a dot
pub parts_at : (text : List ℕ) (dot : ℕ) → position (λ b. eqb b 46) text ≡ Some dot
    → dotted_parts text ≡ take dot text ∷ dotted_parts (take (length text - (dot + 1)) (drop (dot + 1) text))
parts_at text dot e = by_test (ltb (position_or_len (λ b. eqb b 46) text) (length text)) refl e
  where
    by_test : (t : Bool) → ltb (position_or_len (λ b. eqb b 46) text) (length text) ≡ t → cond t (Some (position_or_len (λ b. eqb b 46) text)) None ≡ Some dot
        → dotted_parts text ≡ take dot text ∷ dotted_parts (take (length text - (dot + 1)) (drop (dot + 1) text))
    by_test true h f =
        let is : position_or_len (λ b. eqb b 46) text ≡ dot = cc in
        rw (take_rest text (dot + 1), ← is) (slice_split_first (λ b. eqb b 46) text 0 (ltb-true _ _ h))
    by_test false h f = absurd cc

-- without one
pub parts_none : (text : List ℕ) → position (λ b. eqb b 46) text ≡ None → dotted_parts text ≡ text ∷ []
parts_none text e = by_test (ltb (position_or_len (λ b. eqb b 46) text) (length text)) refl e
  where
    by_test : (t : Bool) → ltb (position_or_len (λ b. eqb b 46) text) (length text) ≡ t → cond t (Some (position_or_len (λ b. eqb b 46) text)) None ≡ None
        → dotted_parts text ≡ text ∷ []
    by_test true h f = absurd cc
    by_test false h f =
        let le : length text ≤ position_or_len (λ b. eqb b 46) text = ltb-false _ _ h in
        slice_split_none (λ b. eqb b 46) text (λ k d lt. fails_before_first (λ b. eqb b 46) text k d (omega arith))
