use Rattle.acpi_space.proofs.Laid.{get-unlent}
use Rattle.acpi_space.proofs.overlay.lent_value.Goals as goal

pub returns-in-None : goal.returns-in-None
returns-in-None g c = get-unlent g.S.Space.contents c.args.space c.args.path.now c.in-None.is
