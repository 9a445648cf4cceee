-- What a walk through a tree has still to do.
use Rattle.std.specs.Prelude.{ℕ, List, [], ◌∷◌, ◌++◌, Option, None, Some, length, map, reverse}
use Rattle.std.specs.List.{flat_map}
use Rattle.acpi_name.specs.Names.{Segment}
use Rattle.acpi_name.specs.Paths.{parent_of}
use Rattle.acpi_space.specs.declared.nodes.Node.{Node}
use Rattle.acpi_space.specs.declared.walk.PairWalk.{PairWalk}
use Rattle.acpi_space.specs.declared.walk.Step.{Step}
use Rattle.acpi_space.specs.declared.walk.Step.TheVariants.{Enter, Leave}
use Rattle.acpi_space.specs.steps.Tree.{pairs_below}

-- the nodes that the steps enter, each with its path, from a path on
abbrev pub ahead : List Segment → List Step → List (List Segment × ℕ)
ahead path [] = []
ahead path (Enter g n ∷ steps) = (path ++ g ∷ [], n) ∷ ahead path steps
ahead path (Leave ∷ steps) = ahead (parent_of path) steps

-- .. once the next of them is entered
abbrev pub next_ahead : Option ℕ → List Segment → List Step → List (List Segment × ℕ)
next_ahead None path steps = []
next_ahead (Some n) path steps = (path, n) ∷ ahead path steps

-- to enter a child
abbrev pub enter : (Segment × ℕ) → Step
enter e = Enter e.0 e.1

-- the nodes that a walk has still to visit, each with its path: the one that was entered, if any, and those ahead
abbrev pub places : Option ℕ → List Segment → List Step → List (List Segment × ℕ)
places None path steps = ahead path steps
places (Some n) path steps = (path, n) ∷ ahead path steps

abbrev pub places_of : {V : Type 0} → PairWalk V → List (List Segment × ℕ)
places_of walk = places walk.entered walk.path (reverse walk.steps.items)

-- pairs, with their paths from the root
abbrev pub under : {V : Type 0} → List Segment → List (List Segment × V) → List (List Segment × V)
under path pairs = map (λ p. (path ++ p.0, p.1)) pairs

-- the pairs at and below the nodes that are still to be visited
abbrev pub pairs_of : {V : Type 0} → List (Node V) → List (List Segment × ℕ)
    → List (List Segment × V)
pairs_of nodes places = flat_map (λ e. under e.0 (pairs_below (length nodes) nodes e.1)) places

-- the pairs that a walk has still to give
abbrev pub left_of : {V : Type 0} → PairWalk V → List (List Segment × V)
left_of walk = pairs_of walk.nodes.now (places_of walk)

-- .. with the one that it gave last, if it gave one
abbrev pub with_given : {V : Type 0} → Option V → PairWalk V → List (List Segment × V)
with_given None walk = []
with_given (Some value) walk = (walk.path, value) ∷ left_of walk

-- a value with its path
abbrev pub pair_at : {V : Type 0} → List Segment → V → List Segment × V
pair_at path v = (path, v)
