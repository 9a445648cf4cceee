use Rattle.acpi_space.proofs.Laid.{nearest-unlent}
use Rattle.acpi_space.proofs.overlay.lent_nearest.Goals as goal

pub returns-in-None : goal.returns-in-None
returns-in-None g c = nearest-unlent g.S.Space.contents c.args.space c.args.scope.now c.args.seg c.in-None.is
