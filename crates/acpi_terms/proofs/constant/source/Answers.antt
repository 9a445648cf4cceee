-- What a wrong body leaves open is named here: its refusal then names it, and needs no second search.
use Rattle.std.proofs.Common.{rules}
use Rattle.acpi_terms.specs.steps.Reading.{source_at}
use Rattle.acpi_terms.proofs.constant.source.Goals as goal

pub returns-in-Nothing : goal.returns-in-Nothing
unfolding source_at
returns-in-Nothing c = search rules
