-- Lists of what is said of each number below one.
use Rattle.std.proofs.Common.{◌≡◌, ◌⊎◌, ◌<◌, ◌≤◌, ◌+◌, ◌&&◌, ◌++◌, ◌∷◌, [], ◌∙◌, ℕ, zero, suc, Bool, true, false, List, length, inl, inr, refl, sym, ap, arith, get_or, length-append, add-one}
use Rattle.std.specs.Prelude.{nat_lt}
use Rattle.std.proofs.lemmas.Bool.{lt-ltb, le-ltb}
use Rattle.std.proofs.lemmas.List.{get_or_append_left, get_or_past}
use Rattle.std.proofs.Math.Seq.{get_or-append_seam}
use Rattle.acpi_locals.specs.steps.AliasPaths.{each_below}
use Rattle.acpi_locals.proofs.Rounds.{compare}

pub length_each : {X : Type 0} (f : ℕ → X) (n : ℕ) → length (each_below f n) ≡ n
length_each f zero = refl
length_each f (suc n) = let h : length (each_below f n) ≡ n = length_each f n in omega (arith, length-append (each_below f n) (f n ∷ []))

below_or_last : (k n : ℕ) → k < suc n → (k < n) ⊎ (k ≡ n)
below_or_last zero zero lt = inr refl
below_or_last zero (suc n) lt = inl (omega arith)
below_or_last (suc k) zero lt = absurd (omega arith)
below_or_last (suc k) (suc n) lt = elim (below_or_last k n (omega arith)) [ inl less ↦ inl (omega arith) | inr e ↦ inr (ap (λ m. suc m) e) ]

pub each_at : {X : Type 0} (f : ℕ → X) (n k : ℕ) (d : X) → k < n → get_or (each_below f n) k d ≡ f k
each_at f zero k d lt = absurd (omega arith)
each_at f (suc n) k d lt = elim (below_or_last k n lt) [
  | inl less ↦ get_or_append_left (each_below f n) (f n ∷ []) d k (let h : length (each_below f n) ≡ n = length_each f n in omega arith) ∙ each_at f n k d less
  | inr e ↦ ap (λ i. get_or (each_below f (suc n)) i d) (e ∙ sym (length_each f n)) ∙ get_or-append_seam (each_below f n) (f n) [] d ∙ ap f (sym e)
]

pub each_past : {X : Type 0} (f : ℕ → X) (n k : ℕ) (d : X) → n ≤ k → get_or (each_below f n) k d ≡ d
each_past f n k d le = get_or_past (each_below f n) k d (let h : length (each_below f n) ≡ n = length_each f n in omega arith)

-- marks say of each number whether it is below, and passes
pub each_mark : (f : ℕ → Bool) (n k : ℕ) → get_or (each_below f n) k false ≡ (nat_lt k n && f k)
each_mark f n k = elim (compare k n) [
  | inl lt ↦ each_at f n k false lt ∙ sym (ap (λ b. b && f k) (lt-ltb k n lt))
  | inr le ↦ each_past f n k false le ∙ sym (ap (λ b. b && f k) (le-ltb k n le))
]

pub each_more : {X : Type 0} (f : ℕ → X) (n : ℕ) → each_below f (n + 1) ≡ each_below f n ++ f n ∷ []
each_more f n = ap (each_below f) (add-one n)
