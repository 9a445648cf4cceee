use Rattle.std.proofs.Common.{◌≡◌, ◌≤◌, ◌++◌, length, take, drop}
use Rattle.std.specs.Vec.Iter.{into_iter_items}
use Rattle.acpi_tree.specs.View.{items_tree}
use Rattle.acpi_rewrite.specs.Rewriting.{codes, without_code}
use Rattle.acpi_rewrite.proofs.rewriting.+recode.Given as goal

abbrev pub invariant-recode_items-loop-item : goal.invariant-recode_items-loop-item
invariant-recode_items-loop-item l =
    goal.unvisited-recode_items-loop-item l × (without_code (items_tree l.items) ≡ without_code (items_tree l.initial.items))
    × (codes (items_tree (take l.item-index l.items)) ++ into_iter_items l.fresh ≡ into_iter_items l.initial.fresh)
    × (length (codes (items_tree (drop l.item-index l.items))) ≤ length (into_iter_items l.fresh))
