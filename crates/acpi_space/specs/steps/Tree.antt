-- A tree of numbered nodes as the finite map from paths to values.
use Rattle.std.specs.Prelude.{◌≡◌, ℕ, box_value, zero, suc, ◌<◌, List, [], ◌∷◌, ◌++◌, map, length, Option, Some, None, slice_get}
use Rattle.std.specs.Option.{option_and_then}
use Rattle.std.specs.Ordering.{is_eq}
use Rattle.std.specs.Map.{lookup}
use Rattle.std.specs.List.{flat_map, AllByRecursion}
use Rattle.std.specs.List.Sorted.{IsStrictlySortedBy}
use Rattle.std.specs.FinMap.{from_entries}
use Rattle.acpi_name.specs.Names.{Segment}
use Rattle.acpi_name.specs.Paths.{segment_cmp}
use Rattle.acpi_space.specs.Spaces.{PathMap}
use Rattle.acpi_space.specs.declared.children.Children.{Children}
use Rattle.acpi_space.specs.declared.children.Children.TheVariants.{Empty, One, Several}
use Rattle.acpi_space.specs.declared.nodes.Node.{Node}

-- children: their segments and numbers
abbrev pub entries_of : Children → List (Segment × ℕ)
entries_of Empty = []
entries_of (One g n) = (g, n) ∷ []
entries_of (Several numbers) = (box_value numbers).entries

-- those of a node
abbrev pub node_children : {V : Type 0} → Option (Node V) → List (Segment × ℕ)
node_children None = []
node_children (Some node) = entries_of node.children

abbrev pub node_value : {V : Type 0} → Option (Node V) → Option V
node_value None = None
node_value (Some node) = node.value

-- the number of the child at a segment
abbrev pub child_of : List (Segment × ℕ) → Segment → Option ℕ
child_of children g = lookup (λ k. is_eq (segment_cmp g k)) children

abbrev pub child_at : {V : Type 0} → List (Node V) → ℕ → Segment → Option ℕ
child_at nodes n g = child_of (node_children (slice_get nodes n)) g

-- the number of the node where a walk down from a node ends
abbrev pub reached : {V : Type 0} → List (Node V) → ℕ → List Segment → Option ℕ
reached nodes n [] = Some n
reached nodes n (g ∷ gs) = option_and_then (λ m. reached nodes m gs) (child_at nodes n g)

-- the value that a walk down from a node finds
abbrev pub value_below : {V : Type 0} → List (Node V) → ℕ → List Segment → Option V
value_below nodes n q = option_and_then (λ m. node_value (slice_get nodes m)) (reached nodes n q)

-- the value of a node, as a list of one pair or none
abbrev pub own_pair : {V : Type 0} → Option V → List (List Segment × V)
own_pair None = []
own_pair (Some v) = ([], v) ∷ []

-- the pairs at and below a node, by what each child gives
abbrev pub node_pairs : {V : Type 0} → (ℕ → List (List Segment × V)) → Option (Node V)
    → List (List Segment × V)
node_pairs below node = own_pair (node_value node)
    ++ flat_map (λ e. map (λ p. (e.0 ∷ p.0, p.1)) (below e.1)) (node_children node)

-- .. to a depth, with the paths from the node
abbrev pub pairs_below : {V : Type 0} → ℕ → List (Node V) → ℕ → List (List Segment × V)
pairs_below zero nodes n = []
pairs_below (suc d) nodes n = node_pairs (pairs_below d nodes) (slice_get nodes n)

-- the whole tree: a node without a value is no pair
abbrev pub tree_map : {V : Type 0} → List (Node V) → PathMap V
tree_map nodes = from_entries (pairs_below (length nodes) nodes 0)

-- a node's children ascend by segment, are nodes, and have greater numbers than it
abbrev pub IsNode : {V : Type 0} → List (Node V) → ℕ → Type 0
IsNode nodes n = IsStrictlySortedBy segment_cmp (map (λ e. e.0) (node_children (slice_get nodes n)))
    × AllByRecursion (λ e. (n < e.1) × (e.1 < length nodes)) (node_children (slice_get nodes n))

-- each node is the child of at most one
abbrev pub IsTree : {V : Type 0} → List (Node V) → Type 0
IsTree nodes = ((n : ℕ) → IsNode nodes n)
    × ((a b k : ℕ) (g h : Segment) → child_at nodes a g ≡ Some k → child_at nodes b h ≡ Some k
    → (a ≡ b) × (g ≡ h))
