use Rattle.std.proofs.Common.{sym, subst}
use Rattle.acpi_space.specs.steps.Trail.{IsTrail}
use Rattle.acpi_space.proofs.Tree.{empty_tree}
use Rattle.acpi_space.proofs.tree_space.TreeSpaceSpace.new.Goals as goal

pub invariant_of-result : goal.invariant_of-result
invariant_of-result g c = (empty_tree c.new.result.items c.new.ensures.items, subst (IsTrail c.new.result.items 0) (sym c.new-2.ensures.items) tt)
