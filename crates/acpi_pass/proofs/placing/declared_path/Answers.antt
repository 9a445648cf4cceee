-- What a wrong body leaves open is named here: its refusal then names it, and needs no second search.
use Rattle.std.proofs.Common.{rules}
use Rattle.acpi_pass.proofs.placing.declared_path.Goals as goal

pub returns-in-Ok : goal.returns-in-Ok
returns-in-Ok g c = search rules

pub returns-in_ok-copy-in-Err-AboveRoot : goal.returns-in_ok-copy-in-Err-AboveRoot
returns-in_ok-copy-in-Err-AboveRoot g c = search rules
