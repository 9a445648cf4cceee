-- What a wrong body leaves open is named here: its refusal then names it, and needs no second search.
use Rattle.std.proofs.Common.{rules}
use Rattle.acpi_terms.specs.steps.Reading.{external_at}
use Rattle.acpi_terms.proofs.block.external_term.Goals as goal

pub returns-in_default : goal.returns-in_default
unfolding external_at
returns-in_default c = search rules
