use Rattle.acpi_outline.proofs.Lying.{reasons_lie}
use Rattle.acpi_outline.proofs.laws.reasons_lie_in_their_ranges.Goals as goal

pub returns : goal.returns
returns g c = λ known depth code ns h. reasons_lie g.K.Known.rules known depth code ns h
