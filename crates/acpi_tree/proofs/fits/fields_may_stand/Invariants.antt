use Rattle.std.proofs.Common.{◌≡◌, drop}
use Rattle.std.specs.List.{list_all}
use Rattle.acpi_tree.specs.View.{field_view}
use Rattle.acpi_tree.specs.Fits.{field_fits}
use Rattle.acpi_tree.proofs.fits.fields_may_stand.Given as goal

abbrev pub invariant-loop-elem : goal.invariant-loop-elem
invariant-loop-elem l = list_all (λ x. field_fits (field_view x)) l.elems ≡ list_all (λ x. field_fits (field_view x)) (drop l.elem-index l.elems)
