use Rattle.std.proofs.Common.{rules}
use Rattle.acpi_space.proofs.Laid.{both-nothing}
use Rattle.acpi_space.proofs.overlay.Overlay.over.Goals as goal

pub returns-clause-contents : goal.returns-clause-contents
returns-clause-contents g c = both-nothing _ _ c.new.ensures

-- What a wrong body leaves open is named too: its refusal then names it, and needs no second search.
pub returns-clause-lower : goal.returns-clause-lower
returns-clause-lower g c = search rules
