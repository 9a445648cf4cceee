use Rattle.std.proofs.Common.{◌≡◌, take}
use Rattle.acpi_tree.specs.View.{elems_view}
use Rattle.acpi_tree.proofs.+copy.Given as goal

abbrev pub invariant-copies::copy_elems-loop-e : goal.invariant-copies::copy_elems-loop-e
invariant-copies::copy_elems-loop-e l = elems_view l.copies.items ≡ elems_view (take l.e-index l.elems)
