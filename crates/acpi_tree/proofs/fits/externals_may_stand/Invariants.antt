use Rattle.std.proofs.Common.{◌≡◌, drop}
use Rattle.std.specs.List.{list_all}
use Rattle.acpi_tree.specs.View.{external_view}
use Rattle.acpi_tree.specs.Fits.{external_fits}
use Rattle.acpi_tree.proofs.fits.externals_may_stand.Given as goal

abbrev pub invariant-loop-external : goal.invariant-loop-external
invariant-loop-external l = list_all (λ x. external_fits (external_view x)) l.externals ≡ list_all (λ x. external_fits (external_view x)) (drop l.external-index l.externals)
