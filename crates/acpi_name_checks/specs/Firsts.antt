-- The first of those that are the same.
use Rattle.std.specs.Prelude.{Bool, not, List, [], ◌∷◌, filter}

abbrev pub firsts_by : {X : Type 0} → (same : X → X → Bool) → List X → List X
firsts_by same [] = []
firsts_by same (x ∷ xs) = x ∷ filter (λ y. not (same y x)) (firsts_by same xs)
