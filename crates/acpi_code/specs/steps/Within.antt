-- Where the bytes that are left stand in the code.
use Rattle.std.specs.Prelude.{◌≡◌, ◌-◌, ◌≤◌, ℕ, List, length, Option, MatchOption}
use Rattle.std.specs.List.{slice_range}

-- they end at the place `end`, and are those bytes of the code
pub record IsWithin (left : List ℕ) (end : ℕ) (shared : Option (List ℕ)) : Type 0 where
  pub room : length left ≤ end
  pub part : MatchOption shared (Unit {0})
      (λ code. (end ≤ length code) × (left ≡ slice_range code (end - length left) end))
