-- The numbers that a fact holds of, collected in their order.
use Rattle.std.proofs.Common.{◌≡◌, ◌⊎◌, inl, inr, ℕ, ◌+◌, ◌<◌, List, [], ◌∷◌, ◌++◌, length, get_or, length-append, subst, sym, ap, ◌∙◌, arith}
use Rattle.std.specs.Prelude.{◌↔◌, Contains}
use Rattle.std.specs.List.Sorted.{IsStrictlyIncreasing}
use Rattle.std.proofs.lemmas.List.{get_or_append_left}
use Rattle.std.proofs.lemmas.List.Elements.{Contains-get_or, Contains-append_left, Contains-push, Contains-push_cases}
use Rattle.std.proofs.Math.Seq.{get_or-append_seam}

-- these are the numbers below one of which it holds
pub record AreBelow (P : ℕ → Type 0) (end : ℕ) (numbers : List ℕ) : Type 0 where
  pub exactly : (n : ℕ) → (Contains numbers n) ↔ ((n < end) × P n)
  pub ascending : IsStrictlyIncreasing numbers

module _ (P : ℕ → Type 0) where
  pub none_below : AreBelow P 0 []
  none_below = record { exactly = λ n. (λ h. let k : h.0 < 0 = h.1 in absurd (omega arith), λ h. let k : n < 0 = h.0 in absurd (omega arith)); ascending = λ k h. absurd (omega arith) }

  -- of one number more it doesn't hold
  pub one_without : (end : ℕ) (numbers : List ℕ) → (P end → ⊥) → AreBelow P end numbers → AreBelow P (end + 1) numbers
  one_without end numbers none h = record { exactly = λ n. (λ k. let b = (h.exactly n).0 k in (let l : n < end = b.0 in omega arith, b.1), λ k. (h.exactly n).1 (below n k.0 k.1, k.1)); ascending = h.ascending }
    where
      either : (n : ℕ) → n < end + 1 → (n < end) ⊎ (n ≡ end)
      either n h = grind arith

      by : (n : ℕ) → P n → (n < end) ⊎ (n ≡ end) → n < end
      by n holds (inl lt) = lt
      by n holds (inr is) = absurd (none (subst P is holds))

      below : (n : ℕ) → n < end + 1 → P n → n < end
      below n lt holds = by n holds (either n lt)

  -- or it does
  pub one_with : (end : ℕ) (numbers : List ℕ) → P end → AreBelow P end numbers → AreBelow P (end + 1) (numbers ++ end ∷ [])
  one_with end numbers holds h = record { exactly = λ n. (λ k. from n (Contains-push_cases numbers end n k), λ k. to n (either n k.0) k.1); ascending = rises }
    where
      either : (n : ℕ) → n < end + 1 → (n < end) ⊎ (n ≡ end)
      either n h = grind arith

      from : (n : ℕ) → Contains numbers n ⊎ (end ≡ n) → (n < end + 1) × P n
      from n (inl k) = let b = (h.exactly n).0 k in (let l : n < end = b.0 in omega arith, b.1)
      from n (inr is) = (omega (arith, is), subst P is holds)

      to : (n : ℕ) → (n < end) ⊎ (n ≡ end) → P n → Contains (numbers ++ end ∷ []) n
      to n (inl lt) p = Contains-append_left numbers (end ∷ []) n ((h.exactly n).1 (lt, p))
      to n (inr is) p = subst (Contains (numbers ++ end ∷ [])) (sym is) (Contains-push numbers end)

      place : (k : ℕ) → k + 1 < length (numbers ++ end ∷ []) → (k + 1 < length numbers) ⊎ (k + 1 ≡ length numbers)
      place k within = let long : length (numbers ++ end ∷ []) ≡ length numbers + 1 = length-append numbers (end ∷ []) in grind arith

      rise : (k : ℕ) → (k + 1 < length numbers) ⊎ (k + 1 ≡ length numbers) → get_or (numbers ++ end ∷ []) k 0 < get_or (numbers ++ end ∷ []) (k + 1) 0
      rise k (inl within) =
          let here = get_or_append_left numbers (end ∷ []) 0 k (omega arith) in
          let next = get_or_append_left numbers (end ∷ []) 0 (k + 1) within in
          let up : get_or numbers k 0 < get_or numbers (k + 1) 0 = h.ascending k within in
          omega (arith, here, next, up)
      rise k (inr last) =
          let here = get_or_append_left numbers (end ∷ []) 0 k (omega arith) in
          let next : get_or (numbers ++ end ∷ []) (k + 1) 0 ≡ end = ap (λ i. get_or (numbers ++ end ∷ []) i 0) last ∙ get_or-append_seam numbers end [] 0 in
          let below : get_or numbers k 0 < end = ((h.exactly (get_or numbers k 0)).0 (Contains-get_or numbers k 0 (omega arith))).0 in
          omega (arith, here, next, below)

      rises : IsStrictlyIncreasing (numbers ++ end ∷ [])
      rises k within = rise k (place k within)

  -- it holds of no further ones
  pub all_below : (end : ℕ) (numbers : List ℕ) → ((n : ℕ) → P n → n < end) → AreBelow P end numbers → (n : ℕ) → (Contains numbers n) ↔ (P n)
  all_below end numbers below h n = (λ k. ((h.exactly n).0 k).1, λ holds. (h.exactly n).1 (below n holds, holds))
