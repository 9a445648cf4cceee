use Rattle.std.proofs.Common.{◌≡◌, ◌+◌, ◌*◌, ◌≤◌, reverse, true}
use Rattle.acpi_tree.specs.Fits.{items_fit}
use Rattle.acpi_tree.specs.Offsets.{OffsetsFit}
use Rattle.acpi_tree.specs.View.{items_tree}
use Rattle.acpi_pass.specs.steps.Entering.{weights}
use Rattle.acpi_pass.specs.steps.View.{pass_of}
use Rattle.acpi_pass.specs.steps.Pass.{pass_items}
use Rattle.acpi_pass.proofs.pass.Pass.+declare.Given as goal

abbrev pub decreases-declare_items : goal.decreases-declare_items
decreases-declare_items g l = 2 * weights (items_tree l.items.items)

abbrev pub decreases-declare_elsewhere : goal.decreases-declare_elsewhere
decreases-declare_elsewhere g l = 2 * weights (items_tree l.items.items) + 1

abbrev pub invariant-declare_items-loop-self : goal.invariant-declare_items-loop-self
invariant-declare_items-loop-self g l =
    (pass_items (pass_of l.self) l.scope (items_tree (reverse l.left.items))
    ≡ pass_items (pass_of l.initial.self) l.initial.scope (items_tree (reverse l.initial.left.items)))
    × OffsetsFit (items_tree (reverse l.left.items)) × (items_fit (items_tree (reverse l.left.items)) ≡ true)
    × (weights (items_tree (reverse l.left.items)) ≤ weights (items_tree (reverse l.initial.left.items)))
    × (l.self.lower ≡ l.initial.self.lower) × (l.scope ≡ l.initial.scope)

abbrev pub decreases-declare_items-loop-self : goal.decreases-declare_items-loop-self
decreases-declare_items-loop-self g l = weights (items_tree (reverse l.left.items))
