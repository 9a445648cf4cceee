-- What stands at a place.
use Rattle.std.specs.Prelude.{◌==◌, ℕ, cond, Option, Some, None}

abbrev pub if_there : {X : Type 0} → (X → ℕ) → ℕ → X → Option X
if_there n place x = cond (n x == place) (Some x) None
