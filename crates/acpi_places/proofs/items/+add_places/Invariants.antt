use Rattle.std.proofs.Common.{length}
use Rattle.acpi_tree.specs.Tree.{ItemTrees}
use Rattle.acpi_places.specs.steps.Walking.{IsSpelled, Continues}
use Rattle.acpi_places.proofs.items.+add_places.Given as goal

abbrev pub decreases-add_places : goal.decreases-add_places
decreases-add_places l = l.level

-- the places of the items that were gone through were added
abbrev pub invariant-each : goal.invariant-each
invariant-each l = (is : ItemTrees) → IsSpelled l.level l.fn.code is → Continues l.table l.level l.fn.code is l.left l.fn.places.items l.places.items

abbrev pub decreases-each : goal.decreases-each
decreases-each l = length l.left.bytes
