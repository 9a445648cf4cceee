-- What a wrong body leaves open is named here: its refusal then names it, and needs no second search.
use Rattle.std.proofs.Common.{rules}
use Rattle.acpi_pass.proofs.links.answer_of.Goals as goal

pub returns-in-Ok-At : goal.returns-in-Ok-At
returns-in-Ok-At g c = search rules
