use Rattle.std.proofs.Common.{◌+◌, ◌-◌, ◌*◌, length, drop}
use Rattle.acpi_tree.specs.TermView.{terms_view, operands_view}
use Rattle.acpi_tree.specs.declared.place.Place.TheVariants.{Element}
use Rattle.acpi_code.proofs.Lists.{Turns}
use Rattle.acpi_values.proofs.InOrder.{Operated}
use Rattle.acpi_values.specs.Spelling.{values}
use Rattle.acpi_values.specs.steps.Reading.{term_at}
use Rattle.acpi_values.proofs.term.+read.Given as goal

abbrev pub decreases-term : goal.decreases-term
decreases-term g l = 16 * l.level

abbrev pub decreases-operand : goal.decreases-operand
decreases-operand g l = 16 * l.level + 1

abbrev pub decreases-arguments : goal.decreases-arguments
decreases-arguments g l = 16 * l.level + 2

abbrev pub decreases-operands : goal.decreases-operands
decreases-operands g l = 16 * l.level + 2

abbrev pub decreases-elements : goal.decreases-elements
decreases-elements g l = 16 * l.level + 2

abbrev pub decreases-operator : goal.decreases-operator
decreases-operator g l = 16 * l.level + 3

abbrev pub decreases-named : goal.decreases-named
decreases-named g l = 16 * l.level + 3

abbrev pub decreases-buffer : goal.decreases-buffer
decreases-buffer g l = 16 * l.level + 3

abbrev pub decreases-package : goal.decreases-package
decreases-package g l = 16 * l.level + 3

abbrev pub decreases-var_package : goal.decreases-var_package
decreases-var_package g l = 16 * l.level + 3

abbrev pub decreases-form : goal.decreases-form
decreases-form g l = 16 * l.level + 4

abbrev pub decreases-placed : goal.decreases-placed
decreases-placed g l = 16 * l.level + 5

abbrev pub invariant-elements-each : goal.invariant-elements-each
invariant-elements-each g l = Turns (term_at (g.C.Counting.grammar l.counting) l.level Element) l.fn.code l.code (terms_view l.found.items)

abbrev pub decreases-elements-each : goal.decreases-elements-each
decreases-elements-each g l = length l.code.bytes

abbrev pub invariant-arguments-each : goal.invariant-arguments-each
invariant-arguments-each g l = Operated (term_at (g.C.Counting.grammar l.counting) l.level) (values l.count) (values (l.count - l.counter)) l.fn.code l.code (terms_view l.found.items)

abbrev pub invariant-operands-each : goal.invariant-operands-each
invariant-operands-each g l = Operated (term_at (g.C.Counting.grammar l.counting) l.level) l.kinds (drop l.kind-index l.kinds) l.fn.code l.code (operands_view l.found.items)
