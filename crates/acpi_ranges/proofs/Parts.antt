-- The ranges of a code that are left.
use Rattle.std.proofs.Common.{◌≡◌, ℕ, suc, ◌+◌, List, [], ◌∷◌, ◌++◌, length, sym, ap, ◌∙◌, append_assoc, append-nil, arith}
use Rattle.acpi_ranges.specs.Ranges.{Entered}
use Rattle.acpi_ranges.specs.SpanViews.{left_in, all_left}
use Rattle.acpi_ranges.specs.declared.spans.Remainder.{Remainder}

left_at : (entered : Entered) (depth k : ℕ) (rs : List Remainder) (r : Remainder) → k ≡ depth + length rs → all_left entered depth (rs ++ r ∷ []) ≡ left_in entered k r ++ all_left entered depth rs
left_at entered depth k [] r e =
    let same : depth ≡ k = omega (arith, e) in
    ap (λ d. left_in entered d r) same ∙ sym (append-nil (left_in entered k r))
left_at entered depth k (q ∷ rs) r e =
    let deeper : k ≡ suc depth + length rs = omega (arith, e) in
    ap (λ l. l ++ left_in entered depth q) (left_at entered (suc depth) k rs r deeper) ∙ append_assoc (left_in entered k r) (all_left entered (suc depth) rs) (left_in entered depth q)

-- a list that is put behind others comes before them, and stands in a node more than the last of them
pub left_behind : (entered : Entered) (rs : List Remainder) (r : Remainder) → all_left entered 0 (rs ++ r ∷ []) ≡ left_in entered (length rs) r ++ all_left entered 0 rs
left_behind entered rs r = left_at entered 0 (length rs) rs r (omega arith)
