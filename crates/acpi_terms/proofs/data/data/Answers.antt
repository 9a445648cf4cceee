-- What a wrong body leaves open is named here: its refusal then names it, and needs no second search.
use Rattle.std.proofs.Common.{rules}
use Rattle.acpi_terms.specs.steps.Reading.{data_at}
use Rattle.acpi_terms.proofs.data.data.Goals as goal

pub returns : goal.returns
unfolding data_at
returns c = search rules
