use Rattle.std.proofs.Common.{◌≡◌, drop}
use Rattle.std.specs.List.{list_all}
use Rattle.acpi_tree.specs.View.{item_view}
use Rattle.acpi_tree.specs.Fits.{item_fits}
use Rattle.acpi_tree.proofs.fits.+items_fit.Given as goal

abbrev pub invariant-items_fit-loop-item : goal.invariant-items_fit-loop-item
invariant-items_fit-loop-item l = list_all (λ x. item_fits (item_view x)) l.items ≡ list_all (λ x. item_fits (item_view x)) (drop l.item-index l.items)
