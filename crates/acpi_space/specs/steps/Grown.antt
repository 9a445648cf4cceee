-- What the steps of an insertion do to the nodes of a tree.
use Rattle.std.specs.Prelude.{◌≡◌, ◌≢◌, ℕ, List, length, Some, slice_get}
use Rattle.acpi_name.specs.Names.{Segment}
use Rattle.acpi_space.specs.declared.nodes.Node.{Node}
use Rattle.acpi_space.specs.steps.Tree.{IsTree, child_at, node_children, node_value, value_below}

-- the nodes have the same children and values, and there may be more of them
pub record IsPadded {V : Type 0} (old new : List (Node V)) : Type 0 where
  pub children : (n : ℕ) → node_children (slice_get new n) ≡ node_children (slice_get old n)
  pub values : (n : ℕ) → node_value (slice_get new n) ≡ node_value (slice_get old n)

-- a tree with the same values, in which each child is one still
pub record IsGrown {V : Type 0} (old new : List (Node V)) : Type 0 where
  pub tree : IsTree new
  pub values : (n : ℕ) (q : List Segment) → value_below new n q ≡ value_below old n q
  pub children : (n : ℕ) (g : Segment) (k : ℕ) → child_at old n g ≡ Some k
      → child_at new n g ≡ Some k

-- one node has the value, and no other changed
pub record HasPut {V : Type 0} (old new : List (Node V)) (number : ℕ) (v : V) : Type 0 where
  pub len : length new ≡ length old
  pub children : (n : ℕ) → node_children (slice_get new n) ≡ node_children (slice_get old n)
  pub others : (n : ℕ) → n ≢ number → node_value (slice_get new n) ≡ node_value (slice_get old n)
  pub value : node_value (slice_get new number) ≡ Some v
