-- What a wrong body leaves open is named here: its refusal then names it, and needs no second search.
use Rattle.std.proofs.Common.{rules}
use Rattle.acpi_terms.proofs.item.read_items.Goals as goal

pub returns-clause-found : goal.returns-clause-found
returns-clause-found c = search rules

pub returns-clause-only : goal.returns-clause-only
returns-clause-only c = search rules

pub returns-clause-faults : goal.returns-clause-faults
returns-clause-faults c = search rules

pub returns-clause-next : goal.returns-clause-next
returns-clause-next c = search rules
