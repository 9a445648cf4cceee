use Rattle.acpi_space.proofs.Laid.{found_below, found_above}
use Rattle.acpi_space.proofs.overlay.OverlaySpace.get.Goals as goal

pub returns-in-Some : goal.returns-in-Some
returns-in-Some g c = found_below _ _ _ c.lent_value.result _ c.lent_value.ensures c.in-Some.is

pub returns-in-None : goal.returns-in-None
returns-in-None g c = found_above _ _ _ c.lent_value.result _ c.lent_value.ensures c.in-None.is c.get.ensures
