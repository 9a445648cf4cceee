-- What a wrong body leaves open is named here: its refusal then names it, and needs no second search.
use Rattle.std.proofs.Common.{rules}
use Rattle.acpi_table.proofs.sources.FromReadSource.read.Goals as goal

pub returns-in-Err-clause-failed : goal.returns-in-Err-clause-failed
returns-in-Err-clause-failed g c = search rules
