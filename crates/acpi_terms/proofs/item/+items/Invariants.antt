use Rattle.std.proofs.Common.{◌+◌, ◌*◌, length}
use Rattle.acpi_terms.proofs.item.+items.Given as goal
use Rattle.acpi_code.proofs.Lists.{Turns}
use Rattle.acpi_terms.specs.steps.Reading.{item_at}
use Rattle.acpi_tree.specs.View.{items_view}

abbrev pub invariant-find_items-each : goal.invariant-find_items-each
invariant-find_items-each l = Turns (item_at l.level) l.fn.code l.code (items_view l.found.items)

abbrev pub decreases-find_items-each : goal.decreases-find_items-each
decreases-find_items-each l = length l.code.bytes

abbrev pub decreases-find_items : goal.decreases-find_items
decreases-find_items l = 2 * l.level

abbrev pub decreases-items : goal.decreases-items
decreases-items l = 2 * l.level + 1
