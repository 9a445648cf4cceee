-- The way to a node, as a trail of marks: a segment and the number of the node to which it leads.
use Rattle.std.specs.Prelude.{◌≡◌, ℕ, ◌+◌, cond, nat_eq, List, [], ◌∷◌, Some}
use Rattle.std.specs.Cmp.Lexicographic.{pointwise}
use Rattle.acpi_name.specs.Names.{Segment}
use Rattle.acpi_space.specs.declared.nodes.Node.{Node}
use Rattle.acpi_space.specs.declared.trail.Fork.{Fork}
use Rattle.acpi_space.specs.declared.trail.TrailNode.{TrailNode}
use Rattle.acpi_space.specs.steps.Tree.{child_at}

-- each mark is a child of the one before it, the first of the node n
abbrev pub IsTrail : {V : Type 0} → List (Node V) → ℕ → List TrailNode → Type 0
IsTrail nodes n [] = Unit {0}
IsTrail nodes n (m ∷ marks) =
    (child_at nodes n m.seg ≡ Some m.number) × IsTrail nodes m.number marks

-- the node at the end of a trail from the node n
abbrev pub trail_end : ℕ → List TrailNode → ℕ
trail_end n [] = n
trail_end n (m ∷ marks) = trail_end m.number marks

-- where a path leaves a trail, both from a node of this number, so many segments below the root
abbrev pub fork_from : ℕ → ℕ → List TrailNode → List Segment → Fork
fork_from depth n (m ∷ marks) (g ∷ path) = cond (pointwise nat_eq m.seg g)
    (fork_from (depth + 1) m.number marks path) (record { depth = depth; number = n })
fork_from depth n _ _ = record { depth = depth; number = n }
