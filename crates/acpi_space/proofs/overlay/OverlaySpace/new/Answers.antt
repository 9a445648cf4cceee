use Rattle.acpi_space.proofs.Laid.{both-nothing}
use Rattle.acpi_space.proofs.overlay.OverlaySpace.new.Goals as goal

pub returns : goal.returns
returns g c = both-nothing _ _ c.new.ensures
