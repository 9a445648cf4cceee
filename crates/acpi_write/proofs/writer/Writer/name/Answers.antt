-- What a wrong body leaves open is named here: its refusal then names it, and needs no second search.
use Rattle.std.proofs.Common.{rules}
use Rattle.acpi_write.proofs.writer.Writer.name.Goals as goal

pub returns-clause-put : goal.returns-clause-put
returns-clause-put c = search rules
