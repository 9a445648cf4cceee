use Rattle.acpi_conservative.proofs.StrictNodes.{strict_kept}
use Rattle.acpi_conservative.proofs.laws.strict_is_kept.Goals as goal

pub returns : goal.returns
returns g c = strict_kept g.K.Known.rules
