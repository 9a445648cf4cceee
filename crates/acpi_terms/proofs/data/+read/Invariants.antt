use Rattle.std.proofs.Common.{◌+◌, ◌*◌, length}
use Rattle.acpi_terms.proofs.data.+read.Given as goal
use Rattle.acpi_code.proofs.Lists.{Turns}
use Rattle.acpi_terms.specs.steps.Reading.{elem_at}
use Rattle.acpi_tree.specs.View.{elems_view}

abbrev pub invariant-elems-each : goal.invariant-elems-each
invariant-elems-each l = Turns (elem_at l.level) l.fn.code l.code (elems_view l.found.items)

abbrev pub decreases-elems-each : goal.decreases-elems-each
decreases-elems-each l = length l.code.bytes

abbrev pub decreases-elem : goal.decreases-elem
decreases-elem l = 5 * l.level

abbrev pub decreases-elems : goal.decreases-elems
decreases-elems l = 5 * l.level + 1

abbrev pub decreases-package_form : goal.decreases-package_form
decreases-package_form l = 5 * l.level + 2

abbrev pub decreases-var_package_form : goal.decreases-var_package_form
decreases-var_package_form l = 5 * l.level + 2

abbrev pub decreases-data_form : goal.decreases-data_form
decreases-data_form l = 5 * l.level + 3

abbrev pub decreases-data_elem : goal.decreases-data_elem
decreases-data_elem l = 5 * l.level + 4
