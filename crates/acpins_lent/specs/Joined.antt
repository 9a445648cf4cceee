-- Tables that are written one behind the other.
use Rattle.std.specs.Prelude.{ℕ, ◌+◌, List, [], ◌∷◌, length}
use Rattle.std.specs.List.{flat_map}

-- tables, one behind the other
abbrev pub joined : List (List ℕ) → List ℕ
joined tables = flat_map (λ t. t) tables

-- where each ends, the first of which begins there
abbrev pub ends_from : ℕ → List (List ℕ) → List ℕ
ends_from begin [] = []
ends_from begin (t ∷ ts) = (begin + length t) ∷ ends_from (begin + length t) ts
