use Rattle.std.proofs.Common.{◌≡◌, take}
use Rattle.acpi_tree.specs.View.{fields_view}
use Rattle.acpi_tree.proofs.copies.copy_fields.Given as goal

abbrev pub invariant-loop-e : goal.invariant-loop-e
invariant-loop-e l = fields_view l.copies.items ≡ fields_view (take l.e-index l.elems)
