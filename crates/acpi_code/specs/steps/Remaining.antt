-- What is left of a list of terms.
use Rattle.std.specs.Prelude.{◌≡◌, ◌<◌, ◌≤◌, ℕ, List, length}

-- the bytes that are left, and the place of the code where they end
pub record Remaining : Type 0 where
  pub bytes : List ℕ
  pub end : ℕ

-- the bytes that are left now end where they did, and are fewer
pub record Advances (old new : Remaining) : Type 0 where
  pub same_end : new.end ≡ old.end
  pub less : length new.bytes < length old.bytes

-- the same, and they may all be left
pub record DoesNotRewind (old new : Remaining) : Type 0 where
  pub same_end : new.end ≡ old.end
  pub at_most : length new.bytes ≤ length old.bytes
