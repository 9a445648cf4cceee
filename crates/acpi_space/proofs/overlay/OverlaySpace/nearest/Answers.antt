use Rattle.std.proofs.Common.{◌∙◌}
use Rattle.acpi_space.proofs.Laid.{nearest-both}
use Rattle.acpi_space.proofs.overlay.OverlaySpace.nearest.Goals as goal

pub returns : goal.returns
returns g c = c.longest.ensures ∙ nearest-both _ _ c.args.scope.now c.args.seg _ _ c.in_ok-below.ensures c.in_ok-nearest.ensures
