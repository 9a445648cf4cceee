use Rattle.std.proofs.Common.{◌≡◌, drop}
use Rattle.std.specs.List.{list_all}
use Rattle.acpi_tree.specs.View.{elem_view}
use Rattle.acpi_tree.specs.Fits.{elem_fits}
use Rattle.acpi_tree.proofs.fits.+fits.Given as goal

abbrev pub invariant-elems_may_stand-loop-elem : goal.invariant-elems_may_stand-loop-elem
invariant-elems_may_stand-loop-elem l = list_all (λ x. elem_fits (elem_view x)) l.elems ≡ list_all (λ x. elem_fits (elem_view x)) (drop l.elem-index l.elems)
