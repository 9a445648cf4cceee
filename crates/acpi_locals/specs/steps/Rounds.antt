-- Rounds over numbers, which mark those that lead to a mark.
use Rattle.std.specs.Prelude.{◌≡◌, ◌<◌, ◌+◌, ◌&&◌, ℕ, Bool, true, false, cond, not, IsTrue, List, [], ◌∷◌, length, slice_index_or}
use Rattle.std.specs.List.{list_any}
use Rattle.acpi_locals.specs.Leading.{LeadsTo}

abbrev pub is_marked : List Bool → ℕ → Bool
is_marked marks n = slice_index_or marks n false

-- one of the numbers is marked
abbrev pub any_marked : List Bool → List ℕ → Bool
any_marked marks ns = list_any (is_marked marks) ns

abbrev pub unmarked : List Bool → ℕ
unmarked [] = 0
unmarked (b ∷ bs) = cond b (unmarked bs) (unmarked bs + 1)

-- the number leads to a mark and has none
abbrev pub is_next : (ℕ → List ℕ) → List Bool → ℕ → Bool
is_next next marks n = any_marked marks (next n) && not (is_marked marks n)

-- marks that came of others by marking numbers below one, in one round
pub record IsRound (next : ℕ → List ℕ) (old : List Bool) (below : ℕ) (marks : List Bool)
    (changed : Bool) : Type 0 where
  pub size : length marks ≡ length old
  pub sound : (n : ℕ) → IsTrue (is_marked marks n) → LeadsTo next (is_marked old) n
  pub kept : (n : ℕ) → IsTrue (is_marked old n) → IsTrue (is_marked marks n)
  pub fewer : changed ≡ true → unmarked marks < unmarked old
  pub same : changed ≡ false → marks ≡ old
  pub closed : changed ≡ false → (n : ℕ) → n < below → is_next next old n ≡ false

-- marks that came of others in rounds
pub record IsSpread (next : ℕ → List ℕ) (old marks : List Bool) : Type 0 where
  pub size : length marks ≡ length old
  pub sound : (n : ℕ) → IsTrue (is_marked marks n) → LeadsTo next (is_marked old) n
  pub kept : (n : ℕ) → IsTrue (is_marked old n) → IsTrue (is_marked marks n)
